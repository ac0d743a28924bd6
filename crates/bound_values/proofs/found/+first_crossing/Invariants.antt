use Rattle.std.proofs.Common.{◌≡◌, set, length, None}
use Rattle.std.specs.List.{flat_map, range_with_len}
use Rattle.bound_values.specs.Questions.{asked_of}
use Rattle.table_cells.specs.Vocabulary.{cells_along}
use Rattle.bound_values.specs.Found.{first_crossed}
use Rattle.bound_values.proofs.found.+first_crossing.Given as goal

abbrev pub decreases-first_crossing : goal.decreases-first_crossing
decreases-first_crossing l = length l.vertices.now

abbrev pub invariant-loop-k : goal.invariant-loop-k
invariant-loop-k l = first_crossed l.scope.question.method l.scope.n l.scope.counts.now (asked_of l.scope.question)
    (flat_map (λ j. cells_along l.scope.counts.now (set l.cell l.v j) l.rest) (range_with_len 0 l.k)) ≡ None
