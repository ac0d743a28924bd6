use Rattle.count_table.proofs.Placing.{IsUnplacing}
use Rattle.count_table.proofs.sum_tables.places.Places.cell.Given as goal

abbrev pub invariant-loop-i : goal.invariant-loop-i
invariant-loop-i l = IsUnplacing l.self-inside.vertices.items l.self-inside.sizes.items l.cell l.i l.rest l.fn.place

abbrev pub decreases-loop-i : goal.decreases-loop-i
decreases-loop-i l = l.i
