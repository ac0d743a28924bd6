-- Where the effect of what is left is known, models that differ on the joint effect differ on the target.
use Rattle.std.proofs.Common.{ℕ, ◌*◌, ◌≡◌, ◌≤◌, Bool, true, refl, sym, ap, ap₂, ◌∙◌, ◌||◌, inl, inr, List, [], ◌∷◌, arith}
use mathlib.Core.Path.{fun_ext}
use Rattle.std.proofs.lemmas.Bool.{or_left}
use Rattle.mixed_graph.specs.Vocabulary.{has, MixedGraph, IsMixedGraph, union, one}
use Rattle.mixed_graph.proofs.Masks.{has-zero, has-or}
use Rattle.fractions.specs.Vocabulary.{mul, IsEqual}
use Rattle.fractions.proofs.FractionLaws.{equal_sym, equal_trans, mul_equal}
use Rattle.finite_models.specs.Vocabulary.{AgreeObserved, FiniteModel, Fits, IsAssignment, IsPositiveModel, weight_of}
use Rattle.finite_models.proofs.Following.{follows_of}
use Rattle.finite_models.proofs.Positive.{positive_weight}
use Rattle.prob_expr.specs.Vocabulary.{PlainTarget, effect, DifferOnTarget}
use Rattle.prob_expr.proofs.Allowed.{in_second}
use Rattle.prob_expr.proofs.Excluded.{without_none}
use Rattle.prob_expr.proofs.Observed.{formula_fixes_effect}
use Rattle.conditional_id.specs.Conditionals.{IsConditionalTarget, IsTurned, AreTurned}
use Rattle.conditional_id.specs.Conditionals.AreTurned.{still, move}
use Rattle.conditional_id.specs.Settled.{IsSettled, JointSettlesTarget}
use Rattle.conditional_id.proofs.Answered.{turned_is_same}
use Rattle.conditional_id.proofs.TurningLaw.{targeted}

-- the interventions stay
grows : (g : MixedGraph) (y x z x' z' : ℕ) (vs : List ℕ) → AreTurned g y x z x' z' vs → (u : ℕ) → has x u ≡ true → has x' u ≡ true
grows g y x z x' z' [] (still n) u e = e
grows g y x z x' z' (v ∷ vs) (move i t l rest) u e = grows g y (union x (one v)) _ x' z' vs rest u (has-or x (one v) u ∙ or_left (has x u) (has (one v) u) e)

turned_grows : (g : MixedGraph) (t : PlainTarget) (x' z' : ℕ) (vs : List ℕ) → IsTurned g t x' z' vs → (u : ℕ) → has t.x u ≡ true → has x' u ≡ true
turned_grows g t x' z' vs (inl w) u e = ap (λ n. has n u) w.1 ∙ e
turned_grows g t x' z' vs (inr w) u e = grows g t.y t.x t.given x' z' vs w.1 u e

module _ (g : MixedGraph) (ok : IsMixedGraph g) (x y z : ℕ) (m : FiniteModel) (fit : Fits g m) (pos : IsPositiveModel m) (s : ℕ → ℕ)
    (hs : IsAssignment m.vertices m.size s) where
  some : (a : ℕ → Bool) → 1 ≤ weight_of m (has x) a s
  some a = positive_weight g m ok (follows_of g m fit) pos (has x) a s hs

  joined : ◌≡◌ {A = ℕ → Bool} (λ v. has (union y z) v || has 0 v) (λ v. has y v || has z v)
  joined = without_none (has (union y z)) ∙ fun_ext (λ v. has-or y z v)

  -- the joint effect is that under the condition, times that of the condition
  pub is_product : IsEqual (effect m (targeted x (union y z) 0) s) (mul (effect m (targeted x y z) s) (effect m (targeted x z 0) s))
  is_product = record {
    left_bottom = some (has 0);
    right_bottom = pair (some (has z)) (some (has 0));
    products = ap₂ (λ a b. a * (weight_of m (has x) (has z) s * b)) (ap (λ c. weight_of m (has x) c s) joined) refl
        ∙ turn (weight_of m (has x) (λ v. has y v || has z v) s) (weight_of m (has x) (has z) s) (weight_of m (has x) (has 0) s)
        ∙ sym (ap (λ c. (weight_of m (has x) (λ v. has y v || has z v) s * weight_of m (has x) c s) * weight_of m (has x) (has 0) s) (without_none (has z)));
  }
    where
      turn : (a b c : ℕ) → a * (b * c) ≡ (a * b) * c
      turn a b c = omega arith

      pair : {a b : ℕ} → 1 ≤ a → 1 ≤ b → 1 ≤ a * b
      pair h k = grind arith

module _ (g : MixedGraph) (ok : IsMixedGraph g) (t : PlainTarget) (k : IsConditionalTarget g t) (x' z' : ℕ) (vs : List ℕ) (turned : IsTurned g t x' z' vs)
    (settled : IsSettled g x' z')
    (m₁ m₂ : FiniteModel) (f₁ : Fits g m₁) (f₂ : Fits g m₂) (p₁ : IsPositiveModel m₁) (p₂ : IsPositiveModel m₂) (agreed : AgreeObserved m₁ m₂) where
  second : (s : ℕ → ℕ) → IsAssignment m₁.vertices m₁.size s → IsAssignment m₂.vertices m₂.size s
  second = in_second m₁ m₂ agreed.vertices agreed.sizes

  -- the effect of what is left is one in both
  left_same : (s : ℕ → ℕ) → IsAssignment m₁.vertices m₁.size s → IsEqual (effect m₁ (targeted x' z' 0) s) (effect m₂ (targeted x' z' 0) s)
  left_same s hs = go settled
    where
      empty : (m : FiniteModel) → z' ≡ 0 → weight_of m (has x') (λ v. has z' v || has 0 v) s ≡ weight_of m (has x') (has 0) s
      empty m e = ap (λ c. weight_of m (has x') c s) (fun_ext (λ v. rw (ap (λ n. has n v) e ∙ has-zero v) refl))

      go : IsSettled g x' z' → IsEqual (effect m₁ (targeted x' z' 0) s) (effect m₂ (targeted x' z' 0) s)
      go (inl e) = record {
        left_bottom = some g ok x' t.y z' m₁ f₁ p₁ s hs (has 0);
        right_bottom = some g ok x' t.y z' m₂ f₂ p₂ s (second s hs) (has 0);
        products = ap₂ (λ a b. a * b) (empty m₁ e) (sym (empty m₂ e)) ∙ commute (weight_of m₁ (has x') (has 0) s)
            (weight_of m₂ (has x') (λ v. has z' v || has 0 v) s);
      }
        where
          commute : (a b : ℕ) → a * b ≡ b * a
          commute a b = omega arith
      go (inr h) = formula_fixes_effect g ok (targeted x' z' 0) h.formula h.do_free h.effect m₁ m₂ f₁ f₂ p₁ p₂ agreed s hs

  same_joint : (s : ℕ → ℕ) → IsAssignment m₁.vertices m₁.size s → IsEqual (effect m₁ t s) (effect m₂ t s)
      → IsEqual (effect m₁ (targeted x' (union t.y z') 0) s) (effect m₂ (targeted x' (union t.y z') 0) s)
  same_joint s hs e =
      let c : IsEqual (effect m₁ (targeted x' t.y z') s) (effect m₂ (targeted x' t.y z') s) =
      equal_trans (effect m₁ (targeted x' t.y z') s) (effect m₁ t s) (effect m₂ (targeted x' t.y z') s)
      (equal_sym (effect m₁ t s) (effect m₁ (targeted x' t.y z') s) (turned_is_same g ok t k x' z' vs turned m₁ f₁ p₁ s hs))
      (equal_trans (effect m₁ t s) (effect m₂ t s) (effect m₂ (targeted x' t.y z') s) e (turned_is_same g ok t k x' z' vs turned m₂ f₂ p₂ s (second s hs))) in
      equal_trans (effect m₁ (targeted x' (union t.y z') 0) s) (mul (effect m₁ (targeted x' t.y z') s) (effect m₁ (targeted x' z' 0) s))
      (effect m₂ (targeted x' (union t.y z') 0) s)
      (is_product g ok x' t.y z' m₁ f₁ p₁ s hs)
      (equal_trans (mul (effect m₁ (targeted x' t.y z') s) (effect m₁ (targeted x' z' 0) s))
      (mul (effect m₂ (targeted x' t.y z') s) (effect m₂ (targeted x' z' 0) s)) (effect m₂ (targeted x' (union t.y z') 0) s)
      (mul_equal (effect m₁ (targeted x' t.y z') s) (effect m₂ (targeted x' t.y z') s) (effect m₁ (targeted x' z' 0) s) (effect m₂ (targeted x' z' 0) s) c
      (left_same s hs))
      (equal_sym (effect m₂ (targeted x' (union t.y z') 0) s) (mul (effect m₂ (targeted x' t.y z') s) (effect m₂ (targeted x' z' 0) s))
      (is_product g ok x' t.y z' m₂ f₂ p₂ s (second s hs))))

  pub settles : DifferOnTarget m₁ m₂ (targeted x' (union t.y z') 0) → DifferOnTarget m₁ m₂ t
  settles differ a ha = let d = differ a ha in (
    record { at = d.0.at; within = d.0.within; unequal = λ e. d.0.unequal (same_joint d.0.at d.0.within e) },
    λ v e. d.1 v (turned_grows g t x' z' vs turned v e),
  )

pub joint_settles_target : JointSettlesTarget
joint_settles_target = λ g ok t k x' z' vs turned settled m₁ m₂ f₁ f₂ p₁ p₂ agreed differ.
    settles g ok t k x' z' vs turned settled m₁ m₂ f₁ f₂ p₁ p₂ agreed differ
