use Rattle.std.proofs.Common.{◌≡◌, ℕ, length, set}
use Rattle.std.specs.List.{flat_map, range_with_len}
use Rattle.count_eval.specs.Rules.{rule}
use Rattle.table_cells.specs.Vocabulary.{cells_along}
use Rattle.evaluate_command.specs.Listed.{plain_in}
use Rattle.evaluate_command.specs.Printing.{Appends}
use Rattle.evaluate_command.proofs.cells.+push_cells.Given as goal

abbrev pub decreases-push_cells : goal.decreases-push_cells
decreases-push_cells g l = length l.vertices.now

abbrev pub invariant-loop-k : goal.invariant-loop-k
invariant-loop-k g l = record {
  same : (j : ℕ) → set l.cell l.place j ≡ set l.initial.cell l.place j;
  values : Appends (rule g.Q.Quantity.kind l.prepared.zero) g.Q.Quantity.covers l.prepared
      (flat_map (λ j. cells_along l.counts (set l.initial.cell l.place j) l.rest) (range_with_len 0 l.k))
      (plain_in g.Q.Quantity.numbers l.initial.out.items) (plain_in g.Q.Quantity.numbers l.out.items);
}
