use Rattle.std.proofs.Common.{◌∙◌}
use Rattle.mixed_graph.specs.Vocabulary.{has, graph_of}
use Rattle.do_rules.proofs.Cutting.{restricted-into}
use Rattle.do_rules.proofs.cuts.cuts.cut_into.Goals as goal

pub returns : goal.returns
returns c = c.restrict.ensures ∙ restricted-into (graph_of c.args.g.now) (has c.args.x.bits) (has c.below-all.result.bits) (has c.difference-rest.result.bits)
    c.args.g.now.valid c.below-all.ensures.members c.difference-rest.ensures.members
