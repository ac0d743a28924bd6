use Rattle.std.proofs.Common.{◌≡◌}
use Rattle.count_cases.proofs.sums.add_tables.Given as goal

abbrev pub invariant-loop-set : goal.invariant-loop-set
invariant-loop-set l = l.tables.table ≡ l.fn.tables.table
