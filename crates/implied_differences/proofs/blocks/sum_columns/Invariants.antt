use Rattle.implied_differences.proofs.BlockSums.{AreColumnsTo}
use Rattle.implied_differences.proofs.blocks.sum_columns.Given as goal

abbrev pub invariant-loop-x : goal.invariant-loop-x
invariant-loop-x l = AreColumnsTo l.table.cells.now l.table.layout.now l.begin l.x l.columns
