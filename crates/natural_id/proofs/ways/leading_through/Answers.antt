use Rattle.mixed_graph.specs.Vocabulary.{graph_of}
use Rattle.natural_id.proofs.Leading.{through_is}
use Rattle.natural_id.proofs.ways.leading_through.Goals as goal

pub returns : goal.returns
returns c = through_is (graph_of c.args.g.now) c.args.g.now.valid c.args.x.bits c.args.m.bits c.args.y.bits c.args.past.bits c.parents_of.result.bits
    c.intersection-mediators.result.bits c.ancestors_outside.result.bits c.requires.m_off_x c.requires.past c.parents_of.ensures
    c.intersection-mediators.ensures.members c.ancestors_outside.ensures
