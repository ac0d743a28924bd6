use Rattle.std.proofs.Common.{◌≤◌, [], length, refl, subst}
use Rattle.mixed_graph.specs.Vocabulary.{graph_of}
use Rattle.prob_expr.specs.Vocabulary.{formula_view, target_view}
use Rattle.do_derivation.specs.Vocabulary.{derivation_view}
use Rattle.conditional_id.specs.Vocabulary.{IsConditionalBySteps, IsShallowGiven, IsRight, IsJointEffect, IsJointShown, IfFormula, IfJoint}
use Rattle.short_formulas.proofs.Usable.{usable_given, or_shorter}
use Rattle.effect_answers.proofs.ReadBack.{formula_back, hedge_back}
use Rattle.effect_answers.proofs.Writing.{target_within, bare_target}
use Rattle.identify_command.proofs.Lists.{with_member}
use Rattle.identify_command.proofs.Shallow.{readable_shallow}
use Rattle.identify_command.proofs.conditional.decide_given.Goals as goal

pub shortened_if-requires-clause-usable : goal.shortened_if-requires-clause-usable
shortened_if-requires-clause-usable c =
    let g = graph_of c.args.g.now in
    let t = target_view c.args.target in
    usable_given g t (formula_view c.in-Formula.formula) (derivation_view c.in-Formula.derivation)
    (subst (IsRight g t) c.in-Formula.is c.in_ok-formula.ensures.right)
    (subst (λ a. IfFormula a IsShallowGiven) c.in-Formula.is c.in_ok-formula.ensures.shallow)
    (subst (λ a. IfFormula a (λ f d. length f.defs ≤ 4096)) c.in-Formula.is c.in_ok-formula.ensures.few)

pub returns-in_ok-shown-in-Formula : goal.returns-in_ok-shown-in-Formula
returns-in_ok-shown-in-Formula c =
    let g = graph_of c.args.g.now in
    let t = target_view c.args.target in
    let f = formula_view c.in_ok-shown-in-Formula.shown.formula in
    let d = derivation_view c.in_ok-shown-in-Formula.shown.derivation in
    let usable = c.in_ok-shown-in-Formula.ensures.usable in record {
      target = refl;
      derivation = d;
      right = usable.right;
      derived = or_shorter c.args.short (IsConditionalBySteps g t) (formula_view c.in-Formula.formula) (derivation_view c.in-Formula.derivation) f d
          c.in_ok-shown-in-Formula.ensures.first
          (subst (λ a. IfFormula a (IsConditionalBySteps g t)) c.in-Formula.is c.in_ok-formula.ensures.derived);
      kept = refl;
      reads_back = λ asked. formula_back g c.args.g.now.valid [] t f d (target_within g.vertices t c.requires.sets c.requires.some) usable.right.formed
          usable.right.accepted c.has_short_steps.ensures (readable_shallow f d usable.readable);
    }

pub returns-in-Joint : goal.returns-in-Joint
returns-in-Joint c =
    let g = graph_of c.args.g.now in
    let t = target_view c.args.target in
    let shown = subst (λ a. IfJoint a (IsJointShown g t)) c.in-Joint.is c.in_ok-formula.ensures.shown in
    let right = subst (IsRight g t) c.in-Joint.is c.in_ok-formula.ensures.right in
    let effect = subst (λ a. IfJoint a (λ x y b h pair. IsJointEffect g t x.bits y.bits)) c.in-Joint.is c.in_ok-formula.ensures.joint in
    let sets = effect.target.sets in
    let x = c.in-Joint.x.bits in
    let y = c.in-Joint.y.bits in
    let bare = bare_target g.vertices x y sets.x_within sets.y_within sets.x_y (with_member y effect.target.some.0 effect.target.some.1) in (
      refl,
      record {
        joint = right.effect;
        models = right.models;
        no_formula = right.no_formula;
        settled_is = right.settled_is;
        differs = right.target;
        hedge = record {
          found = record { right = right.hedge; evidence = shown.hedge; stop = shown.stop; built = shown.built; models = shown.models };
          arrays = c.has_arrays.ensures;
          reads_back = hedge_back g x y c.in-Joint.hedge bare c.has_arrays.ensures shown.hedge;
        };
      },
    )
