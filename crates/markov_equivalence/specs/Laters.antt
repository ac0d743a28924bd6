-- The later of two vertices in the order of a graph.
use Rattle.std.specs.Prelude.{ℕ, ◌≡◌, ◌<◌, Bool, List, ◌⊎◌, slice_index}
use Rattle.mixed_graph.specs.Vocabulary.{MixedGraph, IsOrder}

-- b stands after a in the order of the graph
pub record IsAfter (k : MixedGraph) (a b : ℕ) : Type 0 where
  pub list : List ℕ
  pub count : ℕ
  pub order : IsOrder k list count
  pub i : ℕ
  pub j : ℕ
  pub ascends : i < j
  pub within : j < count
  pub earlier : slice_index list i ≡ a
  pub later : slice_index list j ≡ b

-- the set is that of the parents of the one of a and b that stands after the other
abbrev pub AreParentsOfLater : MixedGraph → ℕ → ℕ → (ℕ → Bool) → Type 0
AreParentsOfLater k a b s = (IsAfter k a b × ((v : ℕ) → s v ≡ k.arrow v b)) ⊎ (IsAfter k b a × ((v : ℕ) → s v ≡ k.arrow v a))
