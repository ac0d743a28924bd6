use Rattle.std.proofs.Common.{length}
use Rattle.count_rows.specs.Vocabulary.{cell_count}
use Rattle.count_table.specs.Cells.{sizes_of}
use Rattle.count_table.proofs.Filling.{IsFilling}
use Rattle.count_table.proofs.cells.counts_of.Given as goal

abbrev pub invariant-loop-count : goal.invariant-loop-count
invariant-loop-count l = IsFilling (sizes_of l.levels) (cell_count l.levels) (length l.levels) l.made.items l.rest l.counts l.numbers l.count-index
