-- Skeletons and unshielded colliders of graphs without bidirected edges (Verma and Pearl, Equivalence and synthesis of causal models, 1990).
use Rattle.std.specs.Prelude.{ℕ, ◌≡◌, ◌<◌, Bool, false, not, ◌&&◌, ◌||◌}
use Rattle.mixed_graph.specs.Vocabulary.{MixedGraph}

-- no edge is bidirected
abbrev pub HasArrowsAlone : MixedGraph → Type 0
HasArrowsAlone g = (u v : ℕ) → g.both u v ≡ false

-- the pair of a and b is in the skeleton: an arrow joins them
abbrev pub is_adjacent : MixedGraph → ℕ → ℕ → Bool
is_adjacent g a b = g.arrow a b || g.arrow b a

-- m is an unshielded collider between a and b: both have an arrow to m, and no arrow joins the two
abbrev pub is_unshielded_collider : MixedGraph → ℕ → ℕ → ℕ → Bool
is_unshielded_collider g a m b = g.arrow a m && (g.arrow b m && not (is_adjacent g a b))

-- the same pairs are joined
abbrev pub HaveSameSkeleton : MixedGraph → MixedGraph → Type 0
HaveSameSkeleton g h = (a b : ℕ) → a < b → is_adjacent g a b ≡ is_adjacent h a b

-- the same unshielded colliders
abbrev pub HaveSameColliders : MixedGraph → MixedGraph → Type 0
HaveSameColliders g h = (a b m : ℕ) → a < b → is_unshielded_collider g a m b ≡ is_unshielded_collider h a m b

-- the graphs have the same skeleton and the same unshielded colliders
pub record AreEquivalent (g h : MixedGraph) : Type 0 where
  pub skeleton : HaveSameSkeleton g h
  pub colliders : HaveSameColliders g h
