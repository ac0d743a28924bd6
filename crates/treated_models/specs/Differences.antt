-- Two models that differ on a joint effect differ among some of the observed.
use Rattle.std.specs.Prelude.{ℕ, ◌*◌, ◌≡◌, true, false, Bool, ◌||◌}
use Rattle.mixed_graph.specs.Vocabulary.{MixedGraph, IsMixedGraph}
use Rattle.fractions.specs.Vocabulary.{IsEqual}
use Rattle.finite_models.specs.Vocabulary.{AgreeObserved, FiniteModel, Fits, IsAssignment, weight_of, total, sum_over}
use Rattle.treated_models.specs.Treated.{weight_of_both, effect_among, IsBefore}

-- summed over the values of x that may have been observed, y under do(x) beside x and z as observed is the effect of x on y and z, where z isn't after x
abbrev pub JointEffectIsSum : Type 0
JointEffectIsSum = (g : MixedGraph) → IsMixedGraph g → (m : FiniteModel) → Fits g m → (x y z : ℕ → Bool) → IsBefore g x (λ v. x v || z v)
    → ((v : ℕ) → y v ≡ true → x v ≡ false) → ((v : ℕ) → y v ≡ true → z v ≡ false) → ((v : ℕ) → z v ≡ true → x v ≡ false)
    → (s : ℕ → ℕ) → IsAssignment m.vertices m.size s
    → sum_over x m.size m.vertices (λ t. weight_of_both m x y (λ v. x v || z v) s t) s ≡ weight_of m x (λ v. y v || z v) s

-- Where two models that agree on observations have one effect among all who may be observed, they have one effect of x on y and z: a hedge for
-- that, whose two models differ on it, shows that the effect among the treated isn't determined by what is observed.
abbrev pub AmongFixesJoint : Type 0
AmongFixesJoint = (g : MixedGraph) → IsMixedGraph g → (m₁ m₂ : FiniteModel) → Fits g m₁ → Fits g m₂ → AgreeObserved m₁ m₂
    → (x y z : ℕ → Bool) → IsBefore g x (λ v. x v || z v)
    → ((v : ℕ) → y v ≡ true → x v ≡ false) → ((v : ℕ) → y v ≡ true → z v ≡ false) → ((v : ℕ) → z v ≡ true → x v ≡ false)
    → (s : ℕ → ℕ) → IsAssignment m₁.vertices m₁.size s
    → ((t : ℕ → ℕ) → IsAssignment m₁.vertices m₁.size t → ((v : ℕ) → x v ≡ false → t v ≡ s v)
    → IsEqual (effect_among m₁ x y (λ v. x v || z v) s t) (effect_among m₂ x y (λ v. x v || z v) s t))
    → weight_of m₁ x (λ v. y v || z v) s * total m₂ ≡ weight_of m₂ x (λ v. y v || z v) s * total m₁
