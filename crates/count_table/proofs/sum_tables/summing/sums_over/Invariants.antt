use Rattle.mixed_graph.specs.Vocabulary.{has}
use Rattle.count_table.proofs.SummingSteps.{IsSumming}
use Rattle.count_table.proofs.sum_tables.summing.sums_over.Given as goal

abbrev pub invariant-loop-i : goal.invariant-loop-i
invariant-loop-i l = IsSumming l.c (has l.of.bits) l.i l.sums.items l.outer l.inner
