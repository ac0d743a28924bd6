use Rattle.std.proofs.Common.{◌≡◌, drop, map, None}
use Rattle.count_eval.specs.Vocabulary.{cell_of, weights_in}
use Rattle.count_eval.specs.Programs.{seen_so_far}
use Rattle.factor_values.specs.Code.{factor_view}
use Rattle.factor_values.specs.Outcomes.{product_from}
use Rattle.factor_values.proofs.evaluating.product_at.Given as goal

abbrev pub invariant-loop-factor : goal.invariant-loop-factor
invariant-loop-factor g l =
    let w = weights_in l.reading.n (g.L.Lookup.counts l.reading.lookup.now) in
    product_from g.Q.Quantity.kind w (map factor_view (drop l.factor-index l.factor-items)) (cell_of l.cell) (cell_of l.reading.second.now)
    (seen_so_far g.Q.Quantity.numbers l.so_far)
    ≡ product_from g.Q.Quantity.kind w (map factor_view l.factor-items) (cell_of l.cell) (cell_of l.reading.second.now) None
