-- The joint effect as a sum over what may have been observed of x, and two models that differ on it.
use Rattle.std.proofs.Common.{ℕ, ◌*◌, ◌≡◌, Bool, true, false, cond, refl, sym, ap, ap₂, ◌∙◌, ◌||◌, arith}
use Rattle.std.proofs.Math.Nat.{eq_of_mul-eq-mul_left}
use mathlib.Core.Path.{fun_ext}
use Rattle.mixed_graph.specs.Vocabulary.{MixedGraph, IsMixedGraph}
use Rattle.fractions.specs.Vocabulary.{IsEqual}
use Rattle.finite_models.specs.Vocabulary.{AgreeObserved, FiniteModel, Fits, IsAssignment, event_weight, weight_of, total, sum_over}
use Rattle.finite_models.proofs.Bools.{either, not_both}
use Rattle.finite_models.proofs.SumLaws.{over-scale, set_at-other}
use Rattle.finite_models.proofs.Weights.{weight_of-none}
use Rattle.prob_expr.proofs.Allowed.{events_under, in_second}
use Rattle.prob_expr.proofs.Boxes.{IsStable, assignment_set, sum_over_equal}
use Rattle.treated_models.specs.Differences.{JointEffectIsSum, AmongFixesJoint}
use Rattle.treated_models.specs.Treated.{held, weight_of_both, effect_among, IsBefore}
use Rattle.treated_models.proofs.Held.{treated_is_held}
use Rattle.treated_models.proofs.Sum.{effect_is_sum}

-- an assignment that has the values of s outside x
abbrev IsElsewhere : FiniteModel → (x : ℕ → Bool) → (s t : ℕ → ℕ) → Type 0
IsElsewhere m x s t = IsAssignment m.vertices m.size t × ((v : ℕ) → x v ≡ false → t v ≡ s v)

elsewhere_stable : (m : FiniteModel) (x : ℕ → Bool) (s : ℕ → ℕ) → IsStable m.vertices x m.size (IsElsewhere m x s)
elsewhere_stable m x s c i k il xi lt p = (
  assignment_set m.vertices m.size c i k lt p.0,
  λ v e. set_at-other c i k v (λ q. not_both (x v) (ap x q ∙ xi) e) ∙ p.1 v e,
)

module _ (g : MixedGraph) (ok : IsMixedGraph g) (x y z : ℕ → Bool) (before : IsBefore g x (λ v. x v || z v))
    (y_off_x : (v : ℕ) → y v ≡ true → x v ≡ false) (y_off_z : (v : ℕ) → y v ≡ true → z v ≡ false) (z_off_x : (v : ℕ) → z v ≡ true → x v ≡ false)
    (s : ℕ → ℕ) where
  alone : IsBefore g x x
  alone = record {
    past = before.past;
    holds = λ v e. before.holds v (left (x v) (z v) e);
    closed = before.closed;
    untouched = before.untouched;
  }
    where
      left : (p q : Bool) → p ≡ true → (p || q) ≡ true
      left p q h = grind (arith, h)

  none : (p q : Bool) → p ≡ false → q ≡ false → (p || q) ≡ false
  none p q h k = grind (arith, h, k)

  -- what isn't after x has its observed value under do(x) too
  beside : (m : FiniteModel) → Fits g m → IsAssignment m.vertices m.size s → (t : ℕ → ℕ) → ((v : ℕ) → x v ≡ false → t v ≡ s v)
      → weight_of_both m x y (λ v. x v || z v) s t ≡ weight_of_both m x (λ v. y v || z v) x s t
  beside m fit within t same =
      treated_is_held g ok m fit x y (λ v. x v || z v) before y_off_x (λ v e. none (x v) (z v) (y_off_x v e) (y_off_z v e)) s t within
      ∙ ap₂ (event_weight (held m x s)) (fun_ext (λ v. turned (y v) (x v) (z v))) (fun_ext (λ v. read v (x v) (z v) refl))
      ∙ sym (treated_is_held g ok m fit x (λ v. y v || z v) x alone off off s t within)
    where
      turned : (y x z : Bool) → (y || (x || z)) ≡ ((y || z) || x)
      turned y x z = grind arith

      read : (v : ℕ) (i j : Bool) → x v ≡ i → cond (i || j) (t v) (s v) ≡ cond i (t v) (s v)
      read v true j e = refl
      read v false true e = same v e
      read v false false e = refl

      off : (v : ℕ) → (y v || z v) ≡ true → x v ≡ false
      off v e = either (y v) (z v) (x v ≡ false) e (y_off_x v) (z_off_x v)

  joint_sum : (m : FiniteModel) → Fits g m → IsAssignment m.vertices m.size s
      → sum_over x m.size m.vertices (λ t. weight_of_both m x y (λ v. x v || z v) s t) s ≡ weight_of m x (λ v. y v || z v) s
  joint_sum m fit within =
      sum_over_equal x m.size (IsElsewhere m x s) m.vertices m.size (λ t. weight_of_both m x y (λ v. x v || z v) s t)
      (λ t. weight_of_both m x (λ v. y v || z v) x s t) s (λ i lt. refl) (elsewhere_stable m x s) (within, λ v e. refl)
      (λ t p. beside m fit within t p.1)
      ∙ effect_is_sum g ok m fit x (λ v. y v || z v) s

  module _ (m₁ m₂ : FiniteModel) (f₁ : Fits g m₁) (f₂ : Fits g m₂) (agreed : AgreeObserved m₁ m₂) (within : IsAssignment m₁.vertices m₁.size s) where
    abbrev given : ℕ → Bool
    given v = x v || z v

    abbrev weight₁ : (ℕ → ℕ) → ℕ
    weight₁ t = weight_of_both m₁ x y given s t

    abbrev weight₂ : (ℕ → ℕ) → ℕ
    weight₂ t = weight_of_both m₂ x y given s t

    given_agree : (t : ℕ → ℕ) → IsAssignment m₁.vertices m₁.size t → event_weight m₁ given t * total m₂ ≡ event_weight m₂ given t * total m₁
    given_agree t inside = ap (λ k. k * total m₂) (sym (weight_of-none m₁ (λ v. false) given t (λ v. refl)))
        ∙ events_under g ok m₁ m₂ f₁ f₂ (λ v. false) agreed given t inside
        ∙ ap (λ k. k * total m₁) (weight_of-none m₂ (λ v. false) given t (λ v. refl))

    cancelled : (w₁ w₂ e₁ e₂ t₁ t₂ : ℕ) → w₁ * e₂ ≡ w₂ * e₁ → e₁ * t₂ ≡ e₂ * t₁ → e₁ * (t₂ * w₁) ≡ e₁ * (t₁ * w₂)
    cancelled w₁ w₂ e₁ e₂ t₁ t₂ p q =
        (let k : e₁ * (t₂ * w₁) ≡ w₁ * (e₁ * t₂) = omega arith in k) ∙ ap (λ k. w₁ * k) q
        ∙ (let k : w₁ * (e₂ * t₁) ≡ (w₁ * e₂) * t₁ = omega arith in k) ∙ ap (λ k. k * t₁) p
        ∙ (let k : (w₂ * e₁) * t₁ ≡ e₁ * (t₁ * w₂) = omega arith in k)

    weights_same : (t : ℕ → ℕ) → IsAssignment m₁.vertices m₁.size t → IsEqual (effect_among m₁ x y given s t) (effect_among m₂ x y given s t)
        → total m₂ * weight₁ t ≡ total m₁ * weight₂ t
    weights_same t inside equal =
        eq_of_mul-eq-mul_left (event_weight m₁ given t) equal.left_bottom (total m₂ * weight₁ t) (total m₁ * weight₂ t)
        (cancelled (weight₁ t) (weight₂ t) (event_weight m₁ given t) (event_weight m₂ given t) (total m₁) (total m₂) equal.products (given_agree t inside))

    turn : (a b : ℕ) → a * b ≡ b * a
    turn a b = omega arith

    joint_same : ((t : ℕ → ℕ) → IsAssignment m₁.vertices m₁.size t → ((v : ℕ) → x v ≡ false → t v ≡ s v)
        → IsEqual (effect_among m₁ x y given s t) (effect_among m₂ x y given s t))
        → weight_of m₁ x (λ v. y v || z v) s * total m₂ ≡ weight_of m₂ x (λ v. y v || z v) s * total m₁
    joint_same equal =
        ap (λ k. k * total m₂) (sym (joint_sum m₁ f₁ within)) ∙ turn (sum_over x m₁.size m₁.vertices weight₁ s) (total m₂)
        ∙ sym (over-scale x m₁.size m₁.vertices (total m₂) weight₁ s)
        ∙ sum_over_equal x m₁.size (IsElsewhere m₁ x s) m₁.vertices m₂.size (λ t. total m₂ * weight₁ t) (λ t. total m₁ * weight₂ t) s agreed.sizes
        (elsewhere_stable m₁ x s) (within, λ v e. refl) (λ t p. weights_same t p.0 (equal t p.0 p.1))
        ∙ over-scale x m₂.size m₁.vertices (total m₁) weight₂ s
        ∙ turn (total m₁) (sum_over x m₂.size m₁.vertices weight₂ s)
        ∙ ap (λ k. k * total m₁) (ap (λ n. sum_over x m₂.size n weight₂ s) agreed.vertices
        ∙ joint_sum m₂ f₂ (in_second m₁ m₂ agreed.vertices agreed.sizes s within))

pub joint_effect_is_sum : JointEffectIsSum
joint_effect_is_sum g ok m fit x y z before y_off_x y_off_z z_off_x s within = joint_sum g ok x y z before y_off_x y_off_z z_off_x s m fit within

pub among_fixes_joint : AmongFixesJoint
among_fixes_joint g ok m₁ m₂ f₁ f₂ agreed x y z before y_off_x y_off_z z_off_x s within equal =
    joint_same g ok x y z before y_off_x y_off_z z_off_x s m₁ m₂ f₁ f₂ agreed within equal
