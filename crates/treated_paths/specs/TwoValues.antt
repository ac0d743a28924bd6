-- A treatment of two values: how the joint effect is made up of the effect among the treated.
use Rattle.std.specs.Prelude.{ℕ, ◌+◌, ◌≡◌, ◌==◌, ◌||◌, Bool, true, false}
use Rattle.mixed_graph.specs.Vocabulary.{MixedGraph, IsMixedGraph}
use Rattle.finite_models.specs.Vocabulary.{FiniteModel, Fits, IsAssignment, event_weight, weight_of}
use Rattle.treated_models.specs.Vocabulary.{weight_of_both, IsBefore, IsOtherValue}

-- P(y, z under do(v)) is P(y, z, v) and, of those who have z and the other value of v, the share that would have y: P(v', z) * P(y under do(v) | v', z),
-- where z isn't after v
abbrev pub TwoValuesSplitJoint : Type 0
TwoValuesSplitJoint = (g : MixedGraph) → IsMixedGraph g → (m : FiniteModel) → Fits g m → (v : ℕ) (y z : ℕ → Bool)
    → IsBefore g (λ u. u == v) (λ u. (u == v) || z u) → ((u : ℕ) → y u ≡ true → (u == v) ≡ false) → ((u : ℕ) → y u ≡ true → z u ≡ false)
    → ((u : ℕ) → z u ≡ true → (u == v) ≡ false) → (s t : ℕ → ℕ) → IsAssignment m.vertices m.size s → IsOtherValue m v s t
    → ((u : ℕ) → (u == v) ≡ false → t u ≡ s u)
    → weight_of m (λ u. u == v) (λ u. y u || z u) s
    ≡ event_weight m (λ u. (y u || z u) || (u == v)) s + weight_of_both m (λ u. u == v) y (λ u. (u == v) || z u) s t
