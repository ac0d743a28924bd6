-- What is found, from what identification answers for the joint effect.
use Rattle.std.proofs.Common.{true, false, not, ℕ, ◌^◌, ◌≡◌, ◌≢◌, ◌<◌, ◌≤◌, ◌↔◌, refl, sym, subst, ◌∙◌, ap, inl, inr, List, [], length, IsTrue, arith}
use Rattle.std.proofs.lemmas.Bool.{cases_eq}
use Rattle.mixed_graph.specs.Vocabulary.{has, MixedGraph, union}
use Rattle.mixed_graph.proofs.Masks.{has-zero, positive_from_has, some_member}
use Rattle.do_rules.specs.Vocabulary.{AreThreeSets}
use Rattle.prob_expr.specs.Vocabulary.{PlainFormula, PlainTarget, effect_on, formula_view}
use Rattle.do_derivation.specs.Vocabulary.{PlainDerivation}
use Rattle.identification_theory.proofs.Bools.{clash}
use Rattle.identification_theory.specs.Vocabulary.{IsDerived}
use Rattle.hedge.specs.declared.hedge.Hedge.{Hedge}
use Rattle.hedge.specs.Vocabulary.{IsHedge}
use Rattle.identify.specs.declared.answer.Answer.{Answer}
use Rattle.identify.specs.Vocabulary.{is_hedge, IsRight}
use Rattle.identify.specs.declared.answer.Answer.TheVariants as answers
use Rattle.conditional_id.proofs.Answered.{one_turned}
use Rattle.conditional_id.proofs.DividingLaw.{divided_defs, join-zero}
use Rattle.conditional_id.proofs.TurningLaw.{joint_target, targeted, turned_target}
use Rattle.conditional_id.specs.Settled.{IsSettled}
use Rattle.conditional_id.specs.Conditionals.AreTurned.{still}
use Rattle.conditional_id.specs.Conditionals.{AreTurned, IsConditionalBySteps, IsConditionalTarget, IsTurned, divided, divided_derivation}
use Rattle.conditional_id.specs.Answers.{SomeJointHedge}
use Rattle.conditional_id.specs.Moves.{AreMoved}
use Rattle.conditional_id.specs.declared.answer.Turned.{Turned}

-- where nothing is given, the target's own sets are turned ones
pub turned_none : (g : MixedGraph) (t : PlainTarget) → t.given ≡ 0 → IsTurned g t t.x 0 []
turned_none g t e = elim (cases_eq t.x 0) [
  | inl z ↦ inl (z, refl, sym e, refl)
  | inr s ↦ inr (s, subst (λ w. AreTurned g t.y t.x w t.x 0 []) (sym e) (still (λ v i n. clash (has 0 v) i (has-zero v))))
]

-- sets of vertices without a common member are a target, where y isn't empty
pub target_with : (g : MixedGraph) (x y z : ℕ) → AreThreeSets g.vertices (has x) (has y) (has z) → 0 < y → y < 2 ^ 64 → IsConditionalTarget g (targeted x y z)
target_with g x y z sets some fits = record { sets = sets; some = some_member y (λ e. absurd (omega (arith, e, some))) fits }

-- the sets of the joint effect
pub joint_sets : (g : MixedGraph) (x y z : ℕ) → IsConditionalTarget g (targeted x y z) → (r : Turned) → AreMoved g y x z r → (w : ℕ) → w ≡ union y r.left.bits
    → IsConditionalTarget g (targeted r.doing.bits w 0)
joint_sets g x y z k r m w e = subst (λ u. IsConditionalTarget g (targeted r.doing.bits u 0)) (sym e)
    (joint_target g r.doing.bits y r.left.bits (turned_target g y x z r.doing.bits r.left.bits m.moved m.turned k))

pub some_positive : (g : MixedGraph) (t : PlainTarget) → IsConditionalTarget g t → 0 < t.y
some_positive g t k = positive_from_has t.y k.some.0 k.some.1

-- a hedge is answered for the joint effect exactly where there is one for some turned sets
pub exact_for : (g : MixedGraph) (t : PlainTarget) (x' z' : ℕ) (vs : List ℕ) → IsTurned g t x' z' vs → (w : ℕ) → w ≡ union t.y z' → (a b : Answer) → a ≡ b
    → IsTrue (is_hedge a) ↔ ((h : Hedge) × IsHedge g x' w h) → IsTrue (is_hedge b) ↔ SomeJointHedge g t
exact_for g t x' z' vs turned w e a b same exact = (λ i. found (of_b.0 i), λ s. of_b.1 (back s))
  where
    of_b : IsTrue (is_hedge b) ↔ ((h : Hedge) × IsHedge g x' w h)
    of_b = subst (λ c. IsTrue (is_hedge c) ↔ ((h : Hedge) × IsHedge g x' w h)) same exact

    found : (h : Hedge) × IsHedge g x' w h → SomeJointHedge g t
    found p = record { doing = x'; left = z'; moved = vs; turned = turned; hedge = p.0; is_hedge = subst (λ u. IsHedge g x' u p.0) e p.1 }

    back : SomeJointHedge g t → (h : Hedge) × IsHedge g x' w h
    back s = let o = one_turned g t s.doing s.left x' z' s.moved vs s.turned turned in
        (s.hedge, subst (λ u. IsHedge g u w s.hedge) o.0 (subst (λ u. IsHedge g s.doing u s.hedge) (ap (union t.y) o.1 ∙ sym e) s.is_hedge))

-- the same where nothing is given
pub exact_plain : (g : MixedGraph) (x y : ℕ) (a b : Answer) → a ≡ b → IsTrue (is_hedge a) ↔ ((h : Hedge) × IsHedge g x y h)
    → IsTrue (is_hedge b) ↔ SomeJointHedge g (effect_on x y)
exact_plain g x y a b same exact = exact_for g (effect_on x y) x 0 [] (turned_none g (effect_on x y) refl) y (sym (join-zero y)) a b same exact

-- the divided formula, from that of the joint effect
pub given_formula : (g : MixedGraph) (t : PlainTarget) → t.given ≢ 0 → t.x ≢ 0 → (x' z' : ℕ) (vs : List ℕ) → AreTurned g t.y t.x t.given x' z' vs → (w : ℕ)
    → w ≡ union t.y z' → (joint : PlainFormula) (e : PlainDerivation)
    → IsDerived g x' w joint e → length joint.defs ≤ 4096 → (f : PlainFormula) (d : PlainDerivation) → f ≡ divided t.y z' joint
    → d ≡ divided_derivation vs t.y z' e → IsConditionalBySteps g t f d × (length f.defs ≤ 4096)
given_formula g t some doing x' z' vs turned w is joint e derived few f d formula steps = (
  inr (inr (
    some,
    doing,
    record {
      doing = x';
      left = z';
      moved = vs;
      turned = turned;
      joint = joint;
      steps = e;
      derived = subst (λ u. IsDerived g x' u joint e) is derived;
      formula = formula;
      derivation = steps;
    },
  )),
  subst (λ h. length h.defs ≤ 4096) (sym formula) (subst (λ ds. length ds ≤ 4096) (sym (divided_defs t.y z' joint)) few),
)

-- where no formula is answered, there is a hedge
pub hedge_by : (g : MixedGraph) (x z : ℕ) (a : Answer) → IsTrue (is_hedge a) ↔ ((h : Hedge) × IsHedge g x z h) → not (is_hedge a) ≡ false
    → (h : Hedge) × IsHedge g x z h
hedge_by g x z a exact e = exact.0 (grind (arith, e))

-- whether the target is settled, from what identification answers for the observations that are left
pub settled_by : (g : MixedGraph) (x z : ℕ) → (z ≡ 0 → ⊥) → (a : Answer) → IsRight g x z a → IsTrue (not (is_hedge a)) ↔ IsSettled g x z
settled_by g x z some (answers.Formula f d) right = (λ e. inr (record { formula = formula_view f; do_free = right.do_free; effect = right.effect }), λ s. refl)
settled_by g x z some (answers.Hedge h pair) right = (λ e. absurd (grind (arith, e)), none)
  where
    none : IsSettled g x z → IsTrue (not true)
    none (inl e) = absurd (some e)
    none (inr f) = absurd (right.no_formula f.formula f.do_free f.effect)
