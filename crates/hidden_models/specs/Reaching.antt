-- The observed vertices that a cause reaches.
use Rattle.std.specs.Prelude.{ℕ, ◌≡◌, ◌<◌, ◌^◌, ◌↔◌, Bool, not, false, ◌==◌, List, length, map, slice_index, IsTrue}
use Rattle.mixed_graph.specs.declared.sets.VSet.{VSet}
use Rattle.mixed_graph.specs.Vocabulary.{has, MixedGraph, IsDirectedPath}
use Rattle.latent_projection.specs.Vocabulary.{AreBefore}
use Rattle.finite_models.specs.Vocabulary.{children_of}
use Rattle.finite_models.specs.declared.model.Cause.{Cause}
use Rattle.hidden_models.specs.Lists.{AreListed}

-- A member of s reaches the observed vertex v: it is v, or a directed path leads from it to v whose vertices before v are hidden.
pub record IsReachedFrom (g : MixedGraph) (l s : ℕ → Bool) (v : ℕ) : Type 0 where
  pub start : ℕ
  pub path : List ℕ
  pub inside : IsTrue (s start)
  pub leads : IsDirectedPath g start path v
  pub before : AreBefore l start path
  pub observed : l v ≡ false

-- the set holds the observed vertices that cause j reaches: that some child of it does
pub record IsReachOf (g : MixedGraph) (l : ℕ → Bool) (causes : List Cause) (j : ℕ) (s : VSet) : Type 0 where
  pub fits : s.bits < 2 ^ 64
  pub tells : (v : ℕ) → IsTrue (has s.bits v) ↔ IsReachedFrom g l (has (children_of causes j)) v

-- the sets are those of the causes, in their order
abbrev pub AreReached : MixedGraph → (ℕ → Bool) → List Cause → List VSet → Type 0
AreReached g l causes sets = AreListed (IsReachOf g l causes) sets (length causes)

-- the mask at a place of a list of sets
abbrev pub mask_at : List VSet → ℕ → ℕ
mask_at sets j = slice_index (map (λ s. s.bits) sets) j

-- whether the set at a place has a member
abbrev pub has_some : List VSet → ℕ → Bool
has_some sets j = not (mask_at sets j == 0)
