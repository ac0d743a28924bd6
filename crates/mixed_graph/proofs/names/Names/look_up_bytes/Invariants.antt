use Rattle.std.proofs.Common.{◌≡◌, ◌<◌, ℕ, false, [], slice_index_or}
use Rattle.std.specs.Str.{bytes_eq}
use Rattle.mixed_graph.proofs.names.Names.look_up_bytes.Given as goal

-- no name before this one is the one that is asked for
abbrev pub invariant-loop-v : goal.invariant-loop-v
invariant-loop-v l = (k : ℕ) → k < l.v → bytes_eq l.name (slice_index_or l.self k []) ≡ false
