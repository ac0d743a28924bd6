-- What is reached in a directed or undirected graph inside a set of vertices (Pearl, Causality, section 1.2).
use Rattle.std.specs.Prelude.{ℕ, Bool, List, IsTrue, slice_index}
use Rattle.mixed_graph.specs.Bits.{has}

-- v is reached from a member of `from` by steps inside `within`, ends included
pub data Reached (step : ℕ → ℕ → Bool) (from within : ℕ → Bool) : ℕ → Type 0 where
  start : {v : ℕ} → IsTrue (from v) → IsTrue (within v) → Reached step from within v
  next : {u v : ℕ} → Reached step from within u → IsTrue (step u v) → IsTrue (within v) → Reached step from within v

-- row u holds v
abbrev pub has_in_row : List ℕ → ℕ → ℕ → Bool
has_in_row rows u v = has (slice_index rows u) v
