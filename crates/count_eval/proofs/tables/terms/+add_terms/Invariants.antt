use Rattle.std.proofs.Common.{◌≡◌, ◌≤◌}
use Rattle.count_table.specs.Vocabulary.{cells_in}
use Rattle.count_eval.proofs.tables.terms.+add_terms.Given as goal

abbrev pub invariant-add_factors-loop-factor : goal.invariant-add_factors-loop-factor
invariant-add_factors-loop-factor l = record {
  table : l.sums.table ≡ l.fn.sums.table;
  most : cells_in l.fn.sums ≤ l.most → cells_in l.sums ≤ l.most;
}
