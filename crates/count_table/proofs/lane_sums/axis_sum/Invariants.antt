use Rattle.count_table.proofs.AxisLaws.{IsSummed}
use Rattle.count_table.proofs.lane_sums.axis_sum.Given as goal

abbrev pub invariant-blocks_of : goal.invariant-blocks_of
invariant-blocks_of l = IsSummed l.into l.cells l.outer l.axis l.inner l.o 0

abbrev pub invariant-rows : goal.invariant-rows
invariant-rows l = IsSummed l.into l.cells l.outer l.axis l.inner l.o l.a
