use Rattle.count_table.specs.Cells.{sizes_of, place_of}
use Rattle.count_table.proofs.TableSteps.{IsPlaced}
use Rattle.count_table.proofs.cells.place_of_cell.Given as goal

abbrev pub invariant-loop-i : goal.invariant-loop-i
invariant-loop-i l = IsPlaced l.levels l.cell l.i l.place (place_of (sizes_of l.levels) l.cell)
