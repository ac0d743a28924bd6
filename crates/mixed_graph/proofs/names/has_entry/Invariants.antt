use Rattle.std.proofs.Common.{◌≡◌, ◌<◌, ℕ, false}
use Rattle.std.specs.Prelude.{slice_index}
use Rattle.mixed_graph.proofs.names.has_entry.Given as goal

-- where none was found, no entry so far is the key
abbrev pub invariant-loop-v : goal.invariant-loop-v
invariant-loop-v l = l.found ≡ false → (i : ℕ) → i < l.v → slice_index l.keys i ≡ l.key → ⊥
