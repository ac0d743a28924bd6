-- A treatment of two values: what is observed, and the effect among those with the other value, make up the effect.
use Rattle.std.specs.Prelude.{ℕ, ◌+◌, ◌≡◌, ◌≢◌, ◌<◌, ◌==◌, ◌||◌, Bool}
use Rattle.mixed_graph.specs.Vocabulary.{MixedGraph, IsMixedGraph}
use Rattle.finite_models.specs.Vocabulary.{FiniteModel, Fits, IsAssignment, event_weight, weight_of}
use Rattle.treated_models.specs.Treated.{weight_of_both}

-- the vertex has two values, and t has the one that s hasn't
pub record IsOtherValue (m : FiniteModel) (v : ℕ) (s t : ℕ → ℕ) : Type 0 where
  pub vertex : v < m.vertices
  pub two : m.size v ≡ 2
  pub inside : t v < 2
  pub other : t v ≢ s v

-- P(y under do(v)) is P(y, v) and, of those who have the other value of v, the share that would have y: a world that shows a value is as where it is
-- set (consistency: Pearl, Causality, chapter 7.3.1)
abbrev pub TwoValuesSplit : Type 0
TwoValuesSplit = (g : MixedGraph) → IsMixedGraph g → (m : FiniteModel) → Fits g m → (v : ℕ) (y : ℕ → Bool) (s t : ℕ → ℕ)
    → IsAssignment m.vertices m.size s → IsOtherValue m v s t
    → weight_of m (λ u. u == v) y s ≡ event_weight m (λ u. y u || (u == v)) s + weight_of_both m (λ u. u == v) y (λ u. u == v) s t
