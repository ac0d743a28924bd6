use Rattle.std.proofs.Common.{◌≤◌, true, length, refl, subst}
use Rattle.mixed_graph.specs.Vocabulary.{graph_of}
use Rattle.do_derivation.specs.Vocabulary.{derivation_view}
use Rattle.identification_theory.specs.Vocabulary.{IsDerived}
use Rattle.identify.specs.Vocabulary.{IsRight, IfFormula, AreShallowSteps, IsShallowFormula}
use Rattle.short_formulas.proofs.Usable.{usable_plain, right_bare}
use Rattle.effect_answers.proofs.Found.{found}
use Rattle.effect_answers.proofs.ReadBack.{hedge_back}
use Rattle.effect_answers.proofs.Writing.{bare_target}
use Rattle.prob_expr.specs.Vocabulary.{formula_view}
use Rattle.evaluate_command.proofs.RightFormulas.{bare_sets, found_by_procedure}
use Rattle.evaluate_command.proofs.procedure.short_formula.Goals as goal

pub shortened-requires-clause-sets : goal.shortened-requires-clause-sets
shortened-requires-clause-sets c = bare_sets c.args.diagram.now.observed.graph.n c.args.sets.x.bits c.args.sets.y.bits c.requires.x c.requires.y
    c.requires.apart

pub shortened-requires-clause-usable : goal.shortened-requires-clause-usable
shortened-requires-clause-usable c =
    let q = graph_of c.args.diagram.now.observed.graph in let x = c.args.sets.x.bits in let y = c.args.sets.y.bits in
    usable_plain q x y (formula_view c.in-Formula.formula) (derivation_view c.in-Formula.derivation)
    (subst (IsRight q x y) c.in-Formula.is c.in_ok-formula.ensures.right)
    (subst (λ a. IfFormula a (λ f d. AreShallowSteps d)) c.in-Formula.is c.in_ok-formula.ensures.shallow_steps)
    (subst (λ a. IfFormula a (λ f d. IsShallowFormula f)) c.in-Formula.is c.in_ok-formula.ensures.shallow_formula)
    (subst (λ a. IfFormula a (λ f d. length f.defs ≤ 4096)) c.in-Formula.is c.in_ok-formula.ensures.few)

pub returns-in_ok-shown-in-Formula : goal.returns-in_ok-shown-in-Formula
returns-in_ok-shown-in-Formula c = λ x y asked.
    let seen = c.args.diagram.now.observed in let on = c.args.sets.x.bits in let of = c.args.sets.y.bits in let q = graph_of seen.graph in
    let f = formula_view c.in_ok-shown-in-Formula.shown.formula in let d = derivation_view c.in_ok-shown-in-Formula.shown.derivation in
    let found = found_by_procedure seen on of (bare_sets seen.graph.n on of c.requires.x c.requires.y c.requires.apart) c.requires.some true f d
    (right_bare q on of f d c.in_ok-shown-in-Formula.ensures.usable.right) (
      formula_view c.in-Formula.formula,
      derivation_view c.in-Formula.derivation,
      subst (λ a. IfFormula a (IsDerived q on of)) c.in-Formula.is c.in_ok-formula.ensures.derived,
      c.in_ok-shown-in-Formula.ensures.no_longer,
    ) in
    record { names = refl; graph = refl; identified = found.0; found = (asked, found.1) }

pub returns-in-Hedge : goal.returns-in-Hedge
returns-in-Hedge c = λ x y asked.
    let e = c.in_ok-formula.ensures in let on = c.args.sets.x.bits in let of = c.args.sets.y.bits in
    let q = graph_of c.args.diagram.now.observed.graph in
    let is = found q on of c.in-Hedge.hedge c.in-Hedge.pair c.in-Hedge.is e.right e.hedge e.stop e.data e.pair in (
      asked,
      record {
        found = is;
        arrays = c.has_arrays.ensures;
        reads_back = hedge_back q on of c.in-Hedge.hedge (bare_target q.vertices on of c.requires.x c.requires.y c.requires.apart c.requires.some)
            c.has_arrays.ensures is.evidence;
      },
    )
