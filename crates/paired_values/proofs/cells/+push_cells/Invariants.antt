use Rattle.std.proofs.Common.{length, set}
use Rattle.std.specs.List.{flat_map, range_with_len}
use Rattle.evaluate_command.specs.Vocabulary.{plain_in}
use Rattle.paired_values.specs.Cells.{cells_at}
use Rattle.paired_values.specs.Readings.{paired_view}
use Rattle.paired_values.specs.Walking.{Appends}
use Rattle.paired_values.proofs.cells.+push_cells.Given as goal

abbrev pub decreases-push_cells : goal.decreases-push_cells
decreases-push_cells g l = length l.axes.now

abbrev pub invariant-loop-k : goal.invariant-loop-k
invariant-loop-k g l = Appends g.Q.Quantity.kind g.Q.Difference.difference (paired_view l.effect) l.counts
    (flat_map (λ j. cells_at l.counts (set l.cell l.place j) l.rest) (range_with_len 0 l.k))
    (plain_in g.Q.Quantity.numbers l.initial.out.items) (plain_in g.Q.Quantity.numbers l.out.items)
