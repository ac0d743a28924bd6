use Rattle.std.proofs.Common.{◌≡◌, ◌≤◌, length, drop, map}
use Rattle.count_table.specs.Cells.{sizes_of, cells_of}
use Rattle.count_table.specs.Codes.{code_of_cell}
use Rattle.count_table.proofs.codes.codes_of.Given as goal

abbrev pub invariant-loop-i : goal.invariant-loop-i
invariant-loop-i l = record {
  within : l.i ≤ length l.levels;
  so_far : l.codes.items ≡ map (code_of_cell (sizes_of (drop l.i l.levels))) (cells_of (sizes_of (drop l.i l.levels)));
}

abbrev pub decreases-loop-i : goal.decreases-loop-i
decreases-loop-i l = l.i
