use Rattle.std.proofs.Common.{◌≡◌, ◌∙◌, ◌||◌, Bool, true, sym, subst, arith}
use Rattle.mixed_graph.specs.Vocabulary.{has, Apart, graph_of}
use Rattle.hedge.specs.Vocabulary.{IsHedge}
use Rattle.identify.specs.declared.answer.FormulaAnswer.{FormulaAnswer}
use Rattle.identify.specs.Vocabulary.{IfHedgeAlone}
use Rattle.natural_id.proofs.Answered.{some_joint}
use Rattle.part_checks.proofs.making.derive_natural_parts.Goals as goal

pub identify_formula-requires-clause-apart : goal.identify_formula-requires-clause-apart
identify_formula-requires-clause-apart c = subst (λ k. Apart (has c.args.x.bits) (has k)) (sym c.union-joint.ensures.mask) c.requires.apart

pub identify_formula-requires-clause-some : goal.identify_formula-requires-clause-some
identify_formula-requires-clause-some c = some_joint c.args.y.bits c.union-joint.result.bits c.requires.y_some (omega arith)
    (λ v e. c.union-joint.ensures.members v ∙ left (has c.args.y.bits v) (has c.args.z.bits v) e)
  where
    left : (p q : Bool) → p ≡ true → (p || q) ≡ true
    left p q h = grind (arith, h)

pub returns-clause-hedge : goal.returns-clause-hedge
returns-clause-hedge c = (
  c.in-Hedge.field-0,
  subst (λ j. IsHedge (graph_of c.args.g.now) c.args.x.bits j c.in-Hedge.field-0) c.union-joint.ensures.mask
      (subst (λ (a : FormulaAnswer). IfHedgeAlone a (λ h pair. IsHedge (graph_of c.args.g.now) c.args.x.bits c.union-joint.result.bits h)) c.in-Hedge.is
      c.in_ok-identify_formula.ensures.hedge),
)
