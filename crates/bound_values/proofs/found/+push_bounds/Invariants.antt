use Rattle.std.proofs.Common.{set, length}
use Rattle.std.specs.List.{flat_map, range_with_len}
use Rattle.bound_values.specs.Questions.{asked_of}
use Rattle.table_cells.specs.Vocabulary.{cells_along}
use Rattle.bound_values.specs.Told.{Appends}
use Rattle.bound_values.proofs.found.+push_bounds.Given as goal

abbrev pub decreases-push_bounds : goal.decreases-push_bounds
decreases-push_bounds l = length l.vertices.now

abbrev pub invariant-loop-k : goal.invariant-loop-k
invariant-loop-k l = Appends l.exact l.scope.question.method l.scope.n l.scope.counts.now (asked_of l.scope.question)
    (flat_map (λ j. cells_along l.scope.counts.now (set l.cell l.v j) l.rest) (range_with_len 0 l.k)) l.initial.out.items l.out.items
