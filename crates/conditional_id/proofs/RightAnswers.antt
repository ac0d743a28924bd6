-- What is found for an effect under a condition is right.
use Rattle.std.proofs.Common.{ℕ, ◌≡◌, ◌≤◌, ◌↔◌, Bool, true, false, refl, sym, ap, subst, ◌∙◌, inl, inr, List, length, IsTrue}
use Rattle.std.specs.Prelude.{Result, IfOk}
use Rattle.mixed_graph.specs.declared.sets.VSet.{VSet}
use Rattle.mixed_graph.specs.Vocabulary.{has, MixedGraph, IsMixedGraph, union}
use Rattle.mixed_graph.proofs.Masks.{has-zero}
use Rattle.finite_models.specs.Vocabulary.{meaning}
use Rattle.prob_expr.specs.Vocabulary.{DifferOnTarget, HasNoFormula, PlainFormula, PlainTarget, effect_on, formula_view}
use Rattle.prob_expr.proofs.Excluded.{difference_excludes_formula}
use Rattle.do_derivation.specs.Vocabulary.{PlainDerivation, derivation_view}
use Rattle.identification_theory.proofs.Bools.{clash}
use Rattle.identification_theory.specs.Vocabulary.{IsDerived}
use Rattle.hedge.specs.declared.hedge.Hedge.{Hedge}
use Rattle.counter_models.specs.declared.counter_pair.CounterPair.{CounterPair}
use Rattle.counter_models.specs.Vocabulary.{AreCounterModels}
use Rattle.counter_models.proofs.Excluded.{differ_on}
use Rattle.identify.specs.Vocabulary.{IsRightHedge}
use Rattle.identify.proofs.RightAnswers.{if_ok}
use Rattle.conditional_id.proofs.Answered.{conditional_is_right, turned_is_same, turned_is_target}
use Rattle.conditional_id.proofs.DividingLaw.{join-zero}
use Rattle.conditional_id.proofs.Settling.{joint_settles_target}
use Rattle.conditional_id.proofs.TurningLaw.{none_moves}
use Rattle.conditional_id.specs.Conditionals.{IsConditionalBySteps, IsConditionalTarget, IsTurned}
use Rattle.conditional_id.specs.HedgeLaws.{AreModelsOf}
use Rattle.conditional_id.proofs.Given.{hedges_exclude_formula}
use Rattle.conditional_id.proofs.TurnedModels.{hedges_give_models_turned}
use Rattle.conditional_id.specs.Answers.{IsAnswerGiven, IsRight, IsJointEffect, IsJointShown, SomeFormula, SomeJointHedge, IfFormula, IfJoint, is_joint}
use Rattle.conditional_id.specs.declared.answer.Conditional.{Conditional}
use Rattle.conditional_id.specs.declared.answer.Conditional.TheVariants.{Formula, Joint}

-- where nothing is given, the target's own sets are the turned ones
turned_plain : (g : MixedGraph) (t : PlainTarget) (x' z' : ℕ) (vs : List ℕ) → t.given ≡ 0 → IsTurned g t x' z' vs → (x' ≡ t.x) × (z' ≡ 0)
turned_plain g t x' z' vs e (inl c) = (c.1, c.2 ∙ e)
turned_plain g t x' z' vs e (inr c) = let n = none_moves g t.y t.x t.given x' z' vs c.1 e in (n.0, n.1)

-- and the joint effect is that of the target
pub plain_sets : (g : MixedGraph) (t : PlainTarget) → t.given ≡ 0 → (x y : VSet) (settled : Bool) (h : Hedge) (pair : CounterPair)
    → IsJointShown g t x y settled h pair → (x.bits ≡ t.x) × (y.bits ≡ t.y)
plain_sets g t e x y settled h pair i = let n = turned_plain g t x.bits i.left i.moved e i.turned in (n.0, i.joint ∙ (ap (union t.y) n.1 ∙ join-zero t.y))

-- without interventions the turned sets have none, and no hedge meets it
pub no_joint_hedge : (g : MixedGraph) (t : PlainTarget) → t.x ≡ 0 → SomeJointHedge g t → ⊥
no_joint_hedge g t e s = go s.turned
  where
    go : IsTurned g t s.doing s.left s.moved → ⊥
    go (inl c) = clash (has s.doing s.is_hedge.meets.vertex) s.is_hedge.meets.in_second (rw (c.1 ∙ e) (has-zero s.is_hedge.meets.vertex))
    go (inr c) = c.0 e

-- where nothing is given, a formula with its derivation is that of identification
pub plain_of : (g : MixedGraph) (t : PlainTarget) → t.given ≡ 0 → (f : PlainFormula) (d : PlainDerivation) → IsConditionalBySteps g t f d
    → IsDerived g t.x t.y f d
plain_of g t e f d (inl c) = c.1
plain_of g t e f d (inr (inl c)) = absurd (c.0 e)
plain_of g t e f d (inr (inr c)) = absurd (c.0 e)

module _ (g : MixedGraph) (valid : IsMixedGraph g) (t : PlainTarget) (k : IsConditionalTarget g t) where
  pub joint_effect : (x y : VSet) (settled : Bool) (h : Hedge) (pair : CounterPair) → IsJointShown g t x y settled h pair → IsJointEffect g t x.bits y.bits
  joint_effect x y settled h pair i = record {
    left = i.left;
    moved = i.moved;
    turned = i.turned;
    joint = i.joint;
    target = subst (λ w. IsConditionalTarget g (effect_on x.bits w)) (sym i.joint) (turned_is_target g t k x.bits i.left i.moved i.turned);
    same = turned_is_same g valid t k x.bits i.left i.moved i.turned;
  }

  -- where it is settled, the models of the joint effect differ on the target
  differ_on_target : (x y : VSet) (settled : Bool) (h : Hedge) (pair : CounterPair) → IsJointShown g t x y settled h pair
      → AreCounterModels g x.bits y.bits pair → IsTrue settled
      → DifferOnTarget (meaning g pair.first) (meaning g pair.second) t
  differ_on_target x y settled h pair i two e =
      joint_settles_target g valid t k x.bits i.left i.moved i.turned (i.settled_is.0 e) (meaning g pair.first)
      (meaning g pair.second) two.first.fits two.second.fits
      two.first.positive two.second.positive two.observed
      (subst (λ w. DifferOnTarget (meaning g pair.first) (meaning g pair.second) (effect_on x.bits w)) i.joint (differ_on g valid x.bits y.bits pair two))

  module _ (few : g.vertices ≤ 64) where
    -- two models that agree on all observations give the target two values: those of the joint effect, or, where it isn't settled, two of the hedge
    -- for what is left
    pub joint_models : (x y : VSet) (settled : Bool) (h : Hedge) (pair : CounterPair) → IsJointShown g t x y settled h pair
        → AreCounterModels g x.bits y.bits pair → AreModelsOf g t
    joint_models x y true h pair i two = record {
      first = meaning g pair.first;
      second = meaning g pair.second;
      first_fits = two.first.fits;
      second_fits = two.second.fits;
      first_two = two.two.0;
      second_two = two.two.1;
      first_positive = two.first.positive;
      second_positive = two.second.positive;
      observed = two.observed;
      differ = (differ_on_target x y true h pair i two refl (λ v. 0) (λ v low. two.first.fits.positive_size v low)).0;
    }
    joint_models x y false h pair i two =
        let left = i.unsettled refl in hedges_give_models_turned g valid few t k x.bits i.left i.moved i.turned (i.walks refl) left.0 left.1

    -- so no formula without interventions equals it
    pub joint_no_formula : (x y : VSet) (settled : Bool) (h : Hedge) (pair : CounterPair) → IsJointShown g t x y settled h pair
        → AreCounterModels g x.bits y.bits pair → HasNoFormula g t
    joint_no_formula x y true h pair i two =
        difference_excludes_formula g valid (meaning g pair.first) (meaning g pair.second) two.first.fits two.second.fits two.first.positive two.second.positive
        two.observed t (differ_on_target x y true h pair i two refl)
    joint_no_formula x y false h pair i two =
        let left = i.unsettled refl in hedges_exclude_formula g valid few t k x.bits i.left i.moved i.turned left.0 left.1

    pub right : (a : Conditional) → IsAnswerGiven g t a → IsRight g t a
    unfolding joint_effect
    right (Formula f d) i = conditional_is_right g valid t k (formula_view f) (derivation_view d) i.0
    right (Joint x y settled h pair) i = let two = i.1.counter in record {
      effect = joint_effect x y settled h pair i.0;
      hedge = i.1;
      models = joint_models x y settled h pair i.0 two;
      no_formula = joint_no_formula x y settled h pair i.0 two;
      settled_is = i.0.settled_is;
      target = differ_on_target x y settled h pair i.0 two;
    }

    -- a formula is answered exactly where the target has one
    pub exact_formula : (a : Conditional) → IsAnswerGiven g t a → is_joint a ≡ false ↔ SomeFormula g t
    exact_formula (Formula f d) i = let r = conditional_is_right g valid t k (formula_view f) (derivation_view d) i.0 in
        (λ e. (formula_view f, r.do_free, r.effect), λ s. refl)
    exact_formula (Joint x y settled h pair) i = (
      λ e. absurd (clash true refl e),
      λ s. absurd (joint_no_formula x y settled h pair i.0 i.1.counter s.0 s.1 s.2),
    )

-- what is true of each formula with its derivation is true of what is found
pub if_formula : {E : Type 0} (g : MixedGraph) (t : PlainTarget) (r : Result Conditional E) (P : PlainFormula → PlainDerivation → Type 0)
    → ((f : PlainFormula) (d : PlainDerivation) → IsConditionalBySteps g t f d → length f.defs ≤ 4096 → P f d) → IfOk r (IsAnswerGiven g t)
    → IfOk r (λ a. IfFormula a P)
if_formula g t r P holds found = if_ok r (IsAnswerGiven g t) (λ a. IfFormula a P) each found
  where
    each : (a : Conditional) → IsAnswerGiven g t a → IfFormula a P
    each (Formula f d) i = holds (formula_view f) (derivation_view d) i.0 i.1
    each (Joint x y settled h pair) i = tt

-- what is true of each joint effect with its hedge and models is true of what is found
pub if_joint : {E : Type 0} (g : MixedGraph) (t : PlainTarget) (r : Result Conditional E) (P : VSet → VSet → Bool → Hedge → CounterPair → Type 0)
    → ((x y : VSet) (settled : Bool) (h : Hedge) (pair : CounterPair) → IsJointShown g t x y settled h pair → IsRightHedge g x.bits y.bits h pair
    → P x y settled h pair) → IfOk r (IsAnswerGiven g t) → IfOk r (λ a. IfJoint a P)
if_joint g t r P holds found = if_ok r (IsAnswerGiven g t) (λ a. IfJoint a P) each found
  where
    each : (a : Conditional) → IsAnswerGiven g t a → IfJoint a P
    each (Formula f d) i = tt
    each (Joint x y settled h pair) i = holds x y settled h pair i.0 i.1
