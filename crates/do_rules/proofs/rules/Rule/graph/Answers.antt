use Rattle.std.proofs.Common.{ap, sym, subst, ◌∙◌}
use Rattle.mixed_graph.specs.Vocabulary.{has, graph_of}
use Rattle.do_rules.specs.Cuts.{cut_into}
use Rattle.do_rules.specs.Rules.{IsRuleGraph}
use Rattle.do_rules.proofs.Moving.{far_part}
use Rattle.do_rules.proofs.rules.Rule.graph.Goals as goal

pub returns-in-Three-clause-cut : goal.returns-in-Three-clause-cut
returns-in-Three-clause-cut c =
    subst (λ r. IsRuleGraph r (graph_of c.args.g.now) (has c.args.x.bits) (has c.args.z.bits) (has c.args.w.bits) (graph_of c.cut_into.result))
    (sym c.in-Three.is) (
      has c.difference-far.result.bits,
      far_part (graph_of c.args.g.now) (graph_of c.cut_into-cut.result) (has c.args.x.bits) (has c.args.z.bits) (has c.args.w.bits)
          (has c.ancestors.result.bits)
          (has c.difference-far.result.bits) c.cut_into-cut.ensures c.ancestors.ensures c.difference-far.ensures.members,
      c.cut_into.ensures ∙ ap (λ h. cut_into h (has c.difference-far.result.bits)) c.cut_into-cut.ensures,
    )
