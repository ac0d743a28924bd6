use Rattle.std.proofs.Common.{◌≢◌, All, take}
use Rattle.count_table.specs.Sums.{Margin}
use Rattle.count_table.proofs.sum_tables.sum_tables.table_of.Given as goal

abbrev pub invariant-loop-table : goal.invariant-loop-table
invariant-loop-table l = All (λ (m : Margin). m.set ≢ l.of.bits) (take l.table-index l.tables)
