-- The order of a graph: repeatedly the vertex of lowest index whose parents are all taken.
use Rattle.std.specs.Prelude.{◌≡◌, ℕ, zero, suc, ◌<◌, Bool, false, ◌||◌, ◌==◌, List, IsTrue, slice_index}
use Rattle.mixed_graph.specs.Graphs.{MixedGraph}

-- whether v is one of the first i entries
abbrev pub taken_by : List ℕ → ℕ → ℕ → Bool
taken_by list zero v = false
taken_by list (suc i) v = taken_by list i v || (v == slice_index list i)

-- v is the lowest vertex that isn't taken and whose parents are all taken
pub record IsNext (g : MixedGraph) (taken : ℕ → Bool) (v : ℕ) : Type 0 where
  pub below : v < g.vertices
  pub free : taken v ≡ false
  pub parents : (u : ℕ) → IsTrue (g.arrow u v) → IsTrue (taken u)
  pub lowest : (u : ℕ) → u < v → taken u ≡ false → (p : ℕ) × IsTrue (g.arrow p u) × (taken p ≡ false)

-- the first `count` entries are all vertices, each the next after those before it
pub record IsOrder (g : MixedGraph) (list : List ℕ) (count : ℕ) : Type 0 where
  pub size : count ≡ g.vertices
  pub next : (i : ℕ) → i < count → IsNext g (taken_by list i) (slice_index list i)
  pub all : (v : ℕ) → v < g.vertices → IsTrue (taken_by list count v)
