use Rattle.mixed_graph.specs.Vocabulary.{graph_of}
use Rattle.natural_id.proofs.Leading.{past_is}
use Rattle.natural_id.proofs.ways.leading_past.Goals as goal

pub returns : goal.returns
returns c = past_is (graph_of c.args.g.now) c.args.g.now.valid c.args.x.bits c.args.m.bits c.args.y.bits c.union.result.bits
    c.ancestors_outside.result.bits c.union.ensures.members c.requires.y_off_x c.requires.y_off_m c.ancestors_outside.ensures
