use Rattle.std.proofs.Common.{◌≡◌, ◌≤◌, ◌+◌, ◌^◌, length}
use Rattle.prob_expr.specs.Vocabulary.{formula_view}
use Rattle.count_table.specs.Vocabulary.{cells_in}
use Rattle.count_eval.specs.Rules.{rule}
use Rattle.count_eval.specs.Tables.{AreKeptTables, cells_of}
use Rattle.count_eval.proofs.tables.tables.tables_of.Given as goal

abbrev pub invariant-loop-k : goal.invariant-loop-k
invariant-loop-k g l = record {
  long : length l.tables.items ≡ l.k;
  table : l.sums.table ≡ l.c;
  kept : AreKeptTables g.Q.Quantity.numbers (rule g.Q.Quantity.kind l.zero) l.n l.c (formula_view l.f) l.c l.tables.items;
  cells : l.cells ≡ cells_of l.tables.items;
  few : cells_in l.sums + l.cells ≤ 2 ^ 22;
}
