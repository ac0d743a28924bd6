use Rattle.std.proofs.Common.{◌≤◌, ◌<◌, ℕ, [], length, refl, sym, subst, ◌∙◌}
use Rattle.std.proofs.lemmas.Bool.{false≢true}
use Rattle.mixed_graph.specs.Vocabulary.{has, Within, Apart, graph_of}
use Rattle.do_rules.specs.Vocabulary.{AreThreeSets}
use Rattle.mixed_graph.proofs.MaskLaws.{has_none}
use Rattle.prob_expr.specs.Vocabulary.{PlainTarget, effect_on, formula_view}
use Rattle.do_derivation.specs.Vocabulary.{derivation_view}
use Rattle.identification_theory.specs.Vocabulary.{IsDerived}
use Rattle.identify.specs.Vocabulary.{IsRight, IfFormula, AreShallowSteps, IsShallowFormula}
use Rattle.short_formulas.specs.Vocabulary.{IsUsable}
use Rattle.short_formulas.proofs.Usable.{usable_plain, right_bare, or_shorter}
use Rattle.effect_answers.proofs.Found.{found}
use Rattle.effect_answers.proofs.ReadBack.{formula_back, hedge_back}
use Rattle.effect_answers.proofs.Writing.{bare_target}
use Rattle.identify_command.proofs.Shallow.{readable_shallow}
use Rattle.identify_command.proofs.reply.decide_derived.Goals as goal

-- the sets of the effect
sets_of : (n x y : ℕ) → Within n (has x) → Within n (has y) → Apart (has x) (has y) → AreThreeSets n (has x) (has y) (has 0)
sets_of n x y in_x in_y apart = record {
  x_within = in_x;
  y_within = in_y;
  w_within = λ v i. absurd (false≢true (sym (has_none v) ∙ i));
  x_y = apart;
  x_w = λ v i. has_none v;
  y_w = λ v i. has_none v;
}

pub shortened_if-requires-clause-sets : goal.shortened_if-requires-clause-sets
shortened_if-requires-clause-sets c = subst (λ (t : PlainTarget). AreThreeSets c.args.g.now.n (has t.x) (has t.y) (has t.given))
    (sym c.target_of-target.ensures)
    (sets_of c.args.g.now.n c.args.sets.x.bits c.args.sets.y.bits c.requires.x c.requires.y c.requires.apart)

pub shortened_if-requires-clause-some : goal.shortened_if-requires-clause-some
shortened_if-requires-clause-some c = subst (λ (t : PlainTarget). 0 < t.y) (sym c.target_of-target.ensures) c.requires.some

pub shortened_if-requires-clause-usable : goal.shortened_if-requires-clause-usable
shortened_if-requires-clause-usable c =
    let g = graph_of c.args.g.now in
    let x = c.args.sets.x.bits in
    let y = c.args.sets.y.bits in
    let f = formula_view c.in-Formula.formula in
    let d = derivation_view c.in-Formula.derivation in
    subst (λ (t : PlainTarget). IsUsable g t f d) (sym c.target_of-target.ensures)
    (usable_plain g x y f d
    (subst (IsRight g x y) c.in-Formula.is c.in_ok-formula.ensures.right)
    (subst (λ a. IfFormula a (λ f d. AreShallowSteps d)) c.in-Formula.is c.in_ok-formula.ensures.shallow_steps)
    (subst (λ a. IfFormula a (λ f d. IsShallowFormula f)) c.in-Formula.is c.in_ok-formula.ensures.shallow_formula)
    (subst (λ a. IfFormula a (λ f d. length f.defs ≤ 4096)) c.in-Formula.is c.in_ok-formula.ensures.few))

pub returns-in_ok-shown-in-Formula : goal.returns-in_ok-shown-in-Formula
returns-in_ok-shown-in-Formula c =
    let g = graph_of c.args.g.now in
    let x = c.args.sets.x.bits in
    let y = c.args.sets.y.bits in
    let f = formula_view c.in_ok-shown-in-Formula.shown.formula in
    let d = derivation_view c.in_ok-shown-in-Formula.shown.derivation in
    let usable = subst (λ (t : PlainTarget). IsUsable g t f d) c.target_of-target.ensures c.in_ok-shown-in-Formula.ensures.usable in
    let effect = (bare_target g.vertices x y c.requires.x c.requires.y c.requires.apart c.requires.some).sets in record {
      target = c.target_of-target.ensures;
      derivation = d;
      right = right_bare g x y f d usable.right;
      derived = or_shorter c.args.short (IsDerived g x y) (formula_view c.in-Formula.formula) (derivation_view c.in-Formula.derivation) f d
          c.in_ok-shown-in-Formula.ensures.first (subst (λ a. IfFormula a (IsDerived g x y)) c.in-Formula.is c.in_ok-formula.ensures.derived);
      kept = refl;
      reads_back = λ asked. formula_back g c.args.g.now.valid [] (effect_on x y) f d effect usable.right.formed usable.right.accepted
          c.has_short_steps.ensures (readable_shallow f d usable.readable);
    }

pub returns-in-Hedge : goal.returns-in-Hedge
returns-in-Hedge c =
    let e = c.in_ok-formula.ensures in
    let q = graph_of c.args.g.now in
    let x = c.args.sets.x.bits in
    let y = c.args.sets.y.bits in
    let is = found q x y c.in-Hedge.hedge c.in-Hedge.pair c.in-Hedge.is e.right e.hedge e.stop e.data e.pair in (
      refl,
      record {
        found = is;
        arrays = c.has_arrays.ensures;
        reads_back = hedge_back q x y c.in-Hedge.hedge (bare_target q.vertices x y c.requires.x c.requires.y c.requires.apart c.requires.some)
            c.has_arrays.ensures is.evidence;
      },
    )
