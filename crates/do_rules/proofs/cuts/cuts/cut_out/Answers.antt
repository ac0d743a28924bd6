use Rattle.std.proofs.Common.{◌∙◌}
use Rattle.mixed_graph.specs.Vocabulary.{has, graph_of}
use Rattle.do_rules.proofs.Cutting.{restricted-out}
use Rattle.do_rules.proofs.cuts.cuts.cut_out.Goals as goal

pub returns : goal.returns
returns c = c.restrict.ensures ∙ restricted-out (graph_of c.args.g.now) (has c.args.z.bits) (has c.below-all.result.bits) (has c.difference.result.bits)
    c.args.g.now.valid c.below-all.ensures.members c.difference.ensures.members
