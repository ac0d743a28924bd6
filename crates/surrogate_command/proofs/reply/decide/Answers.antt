use Rattle.std.proofs.Common.{◌≤◌, ◌≡◌, ◌↔◌, List, Some, None, true, length, refl, sym, ap, subst, IsTrue}
use Rattle.mixed_graph.specs.declared.sets.VSet.{VSet}
use Rattle.mixed_graph.specs.Vocabulary.{graph_of}
use Rattle.prob_expr.specs.Vocabulary.{fault_in, masks_of, effect_on, formula_view}
use Rattle.do_derivation.specs.Vocabulary.{derivation_view}
use Rattle.identify.specs.Vocabulary.{AreShallowSteps, IsShallowFormula}
use Rattle.effect_answers.proofs.ReadBack.{formula_back}
use Rattle.effect_answers.proofs.Shallow.{formula_shallow}
use Rattle.effect_answers.proofs.Writing.{bare_target}
use Rattle.surrogates.specs.Vocabulary.{IsRightWith, IfFormula, IfStopped, IfCommon, IsStopShown, IsBlockShown, IsBlockedTogether, HasCommon, is_stopped, IsSurrogate, IsSurrogateBySteps, SomeBlocked}
use Rattle.surrogate_command.specs.Right.{IsFormula}
use Rattle.surrogate_command.proofs.Stops.{stop_decided}
use Rattle.surrogate_command.proofs.reply.decide.Goals as goal

pub identify_with-requires-clause-few : goal.identify_with-requires-clause-few
identify_with-requires-clause-few c = subst (λ l. length l ≤ 8) (sym c.as_slice-experiments.ensures.value) c.requires.few

pub returns-in-Formula : goal.returns-in-Formula
returns-in-Formula c =
    let g = graph_of c.args.g.now in
    let zs = masks_of c.as_slice-experiments.result.now in
    let x = c.args.sets.x.bits in
    let y = c.args.sets.y.bits in
    let f = formula_view c.in-Formula.formula in
    let d = derivation_view c.in-Formula.derivation in
    let right = subst (IsRightWith g zs x y) c.in-Formula.is c.in_ok-formula.ensures.right in
    let effect = (bare_target g.vertices x y c.requires.x c.requires.y c.requires.apart c.requires.some).sets in
    let formed = subst (λ a. IfFormula a (λ f d. fault_in g.vertices f ≡ None)) c.in-Formula.is c.in_ok-formula.ensures.formed in
    let shallow = formula_shallow f d (subst (λ a. IfFormula a (λ f d. length f.defs ≤ 4096)) c.in-Formula.is c.in_ok-formula.ensures.few)
    (subst (λ a. IfFormula a (λ f d. IsShallowFormula f)) c.in-Formula.is c.in_ok-formula.ensures.shallow_formula)
    (subst (λ a. IfFormula a (λ f d. AreShallowSteps d)) c.in-Formula.is c.in_ok-formula.ensures.shallow_steps) in (
      refl,
      subst (λ (l : List VSet). IsFormula g (masks_of l) x y
          (record { target = c.effect_of-target.result; formula = c.in-Formula.formula; derivation = Some c.in-Formula.derivation })) c.as_slice-experiments.ensures.value (record {
            target = c.effect_of-target.ensures;
            derivation = d;
            right = right;
            stated = subst (λ a. IfFormula a (λ f t. IsSurrogate g zs x y f)) c.in-Formula.is c.in_ok-formula.ensures.formula;
            derived = subst (λ a. IfFormula a (IsSurrogateBySteps g zs x y)) c.in-Formula.is c.in_ok-formula.ensures.derived;
            unblocked = λ blocked. let bad = (subst (λ a. IsTrue (is_stopped a) ↔ SomeBlocked g zs x y) c.in-Formula.is c.in_ok-formula.ensures.exact).1 blocked in
                cc bad;
            plain = λ f is. (subst (λ a. (is_stopped a ≡ true → ⊥) × IfFormula a (λ h t. h ≡ f)) c.in-Formula.is (c.in_ok-formula.ensures.plain f is)).1;
            kept = refl;
            reads_back = formula_back g c.args.g.now.valid zs (effect_on x y) f d effect formed right.accepted c.has_short_steps.ensures shallow;
          }),
    )

pub returns : goal.returns
returns c =
    let g = graph_of c.args.g.now in
    let zs = masks_of c.as_slice-experiments.result.now in
    let x = c.args.sets.x.bits in
    let y = c.args.sets.y.bits in
    let right = subst (IsRightWith g zs x y) c.in-Stopped.is c.in_ok-formula.ensures.right in
    stop_decided c.args.wanted g c.args.sets zs c.in-Stopped.district c.in-Stopped.hedge c.in-Stopped.pair c.in-Stopped.common c.stopped.result
    (ap masks_of c.as_slice-experiments.ensures.value)
    (bare_target g.vertices x y c.requires.x c.requires.y c.requires.apart c.requires.some)
    right.0
    (subst (λ a. IfStopped a (IsStopShown g zs x y)) c.in-Stopped.is c.in_ok-formula.ensures.stopped)
    right.1
    (subst (λ a. IfCommon a (IsBlockShown g zs x y)) c.in-Stopped.is c.in_ok-formula.ensures.blocked)
    c.stopped.ensures.arrays
    (subst (λ a. HasCommon a ↔ IsBlockedTogether g zs x y) c.in-Stopped.is c.in_ok-formula.ensures.common)
    c.stopped.ensures.is
