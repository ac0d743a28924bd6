use Rattle.implied_differences.specs.Blocks.{IsBest}
use Rattle.implied_differences.proofs.blocks.best_in_row.Given as goal

abbrev pub invariant-loop-y : goal.invariant-loop-y
invariant-loop-y l = IsBest l.table.cells.now l.table.layout.now l.block.number l.x l.y l.best
