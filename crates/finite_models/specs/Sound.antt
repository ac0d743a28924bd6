-- What data has to keep so that it means a model that fits the graph, and the first fault of data that doesn't.
use Rattle.std.specs.Prelude.{◌≢◌, ℕ, ◌<◌, ◌≤◌, List, length, slice_index, IsTrue}
use Rattle.mixed_graph.specs.Vocabulary.{has, Within, MixedGraph}
use Rattle.finite_models.specs.Sums.{sum_below}
use Rattle.finite_models.specs.Data.{weights_of, children_of}
use Rattle.finite_models.specs.declared.model.Model.{Model}

-- any two members of the set are joined by a bidirected edge
abbrev pub AreAllJoined : MixedGraph → ℕ → Type 0
AreAllJoined g children = (u v : ℕ) → IsTrue (has children u) → IsTrue (has children v) → u ≢ v → IsTrue (g.both u v)

-- the weights have a positive sum, and the children are one vertex or vertices joined pairwise
pub record IsSoundCause (g : MixedGraph) (weights : List ℕ) (children : ℕ) : Type 0 where
  pub positive : 1 ≤ sum_below (length weights) (λ i. slice_index weights i)
  pub child : (v : ℕ) × IsTrue (has children v)
  pub below : Within g.vertices (has children)
  pub joined : AreAllJoined g children

-- cause j of the model is sound
abbrev pub IsSoundAt : MixedGraph → Model → ℕ → Type 0
IsSoundAt g m j = IsSoundCause g (weights_of m.causes.items j) (children_of m.causes.items j)

-- j is the lowest number below n of which P doesn't hold
pub record IsFirstWrong (n : ℕ) (P : ℕ → Type 0) (j : ℕ) : Type 0 where
  pub below : j < n
  pub wrong : P j → ⊥
  pub before : (i : ℕ) → i < j → P i

-- P holds of each number below n
abbrev pub AllRight : ℕ → (ℕ → Type 0) → Type 0
AllRight n P = (i : ℕ) → i < n → P i
