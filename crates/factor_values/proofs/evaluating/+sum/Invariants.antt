use Rattle.std.proofs.Common.{◌≡◌, ◌+◌, ◌-◌, set, Ok}
use Rattle.count_eval.specs.Steps.{each_level}
use Rattle.count_eval.specs.Vocabulary.{cell_of, weights_in}
use Rattle.count_eval.specs.Programs.{seen_so_far}
use Rattle.factor_values.specs.Cells.{cells_from}
use Rattle.factor_values.specs.Code.{factors_view}
use Rattle.factor_values.proofs.evaluating.+sum.Given as goal

abbrev pub decreases-cells_from : goal.decreases-cells_from
decreases-cells_from g l = 64 - l.v

abbrev pub invariant-loop-x : goal.invariant-loop-x
invariant-loop-x g l =
    let w = weights_in l.reading.n (g.L.Lookup.counts l.reading.lookup.now) in
    each_level l.x (λ x. cells_from g.Q.Quantity.kind w (factors_view l.reading.factors.now) (cell_of l.reading.first.now) (cell_of l.reading.second.now)
    (l.v + 1) (set l.cell l.v x)) (seen_so_far g.Q.Quantity.numbers l.fn.so_far) ≡ Ok (seen_so_far g.Q.Quantity.numbers l.total)
