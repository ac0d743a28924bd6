use Rattle.implied_differences.specs.Blocks.{IsBest}
use Rattle.implied_differences.proofs.blocks.best_in_block.Given as goal

abbrev pub invariant-loop-x : goal.invariant-loop-x
invariant-loop-x l = IsBest l.table.cells.now l.table.layout.now l.block.number l.x 0 l.best
