use Rattle.std.proofs.Common.{◌≡◌, ◌≤◌, ◌*◌, ◌^◌, drop}
use Rattle.count_rows.specs.Records.{cell_count}
use Rattle.count_rows.proofs.tally.is_too_large.Given as goal

abbrev pub invariant-loop-level : goal.invariant-loop-level
invariant-loop-level l = record {
  small : l.cells ≤ 2 ^ 20;
  whole : l.cells * cell_count (drop l.level-index l.levels) ≡ cell_count l.levels;
}
