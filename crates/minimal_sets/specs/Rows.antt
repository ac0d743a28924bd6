-- Undirected graphs as rows of bits.
use Rattle.std.specs.Prelude.{ℕ, Bool, List, slice_index}
use Rattle.mixed_graph.specs.Vocabulary.{has}

-- u and v are joined: bit v of row u is set
abbrev pub is_near : List ℕ → ℕ → ℕ → Bool
is_near near u v = has (slice_index near u) v
