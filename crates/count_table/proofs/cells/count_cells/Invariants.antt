use Rattle.std.proofs.Common.{◌≡◌, ◌*◌, drop, take, All}
use Rattle.count_rows.specs.Vocabulary.{AreLevels, cell_count}
use Rattle.count_table.proofs.cells.count_cells.Given as goal

abbrev pub invariant-loop-level : goal.invariant-loop-level
invariant-loop-level l = record {
  count : l.cells * cell_count (drop l.level-index l.levels) ≡ cell_count l.levels;
  differ : All AreLevels (take l.level-index l.levels);
}
