use Rattle.std.proofs.Common.{◌≡◌, [], length, get_or}
use Rattle.mixed_graph.specs.Vocabulary.{has}
use Rattle.prob_expr.specs.Vocabulary.{free_in_defs}
use Rattle.count_table.specs.Vocabulary.{axes_of}
use Rattle.count_eval.specs.Rules.{rule}
use Rattle.count_eval.proofs.TableLaws.{IsRight}
use Rattle.count_eval.proofs.tables.tables.Tables.table_of.Given as goal

abbrev pub invariant-loop-place : goal.invariant-loop-place
invariant-loop-place g l = record {
  long : length l.values.items ≡ l.place;
  right : IsRight g.Q.Quantity.numbers (rule g.Q.Quantity.kind l.self.zero) l.self.vertices l.self.counts l.self.formula.defs l.k
      (axes_of l.self.counts (has (get_or (free_in_defs [] l.self.formula.defs) l.k 0))) l.values.items;
}
