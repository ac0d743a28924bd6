use Rattle.std.proofs.Common.{◌≡◌, ◌<◌, ℕ, false, ◌||◌}
use Rattle.dag_reader.specs.Rows.{row_has}
use Rattle.dag_reader.proofs.edges.has_loop.Given as goal

abbrev pub invariant-loop-v : goal.invariant-loop-v
invariant-loop-v l = (v : ℕ) → v < l.v → (row_has l.edges.arrows v v || row_has l.edges.doubles v v) ≡ false
