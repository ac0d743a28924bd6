use Rattle.std.proofs.Common.{◌≤◌, length, subst}
use Rattle.mixed_graph.specs.Vocabulary.{graph_of}
use Rattle.prob_expr.specs.Vocabulary.{formula_view, target_view}
use Rattle.do_derivation.specs.Vocabulary.{derivation_view}
use Rattle.conditional_id.specs.Vocabulary.{IsShallowGiven, IsRight, IfFormula}
use Rattle.short_formulas.proofs.Usable.{usable_given}
use Rattle.short_formulas.proofs.identifying.identify_short.Goals as goal

pub shortened-requires-clause-usable : goal.shortened-requires-clause-usable
shortened-requires-clause-usable c =
    let g = graph_of c.args.g.now in
    let t = target_view c.args.t.now in
    usable_given g t (formula_view c.in-Formula.formula) (derivation_view c.in-Formula.derivation)
    (subst (IsRight g t) c.in-Formula.is c.in_ok-formula.ensures.right)
    (subst (λ a. IfFormula a IsShallowGiven) c.in-Formula.is c.in_ok-formula.ensures.shallow)
    (subst (λ a. IfFormula a (λ f d. length f.defs ≤ 4096)) c.in-Formula.is c.in_ok-formula.ensures.few)
