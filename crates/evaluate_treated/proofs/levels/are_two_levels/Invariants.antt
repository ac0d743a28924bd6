use Rattle.std.proofs.Common.{◌≡◌, ℕ, ◌<◌, ◌≤◌, true}
use Rattle.mixed_graph.specs.Vocabulary.{has}
use Rattle.table_cells.specs.Vocabulary.{level_count}
use Rattle.evaluate_treated.proofs.levels.are_two_levels.Given as goal

abbrev pub invariant-loop-v : goal.invariant-loop-v
invariant-loop-v l = (v : ℕ) → v < l.v → has l.x.bits v ≡ true → level_count l.counts v ≤ 2
