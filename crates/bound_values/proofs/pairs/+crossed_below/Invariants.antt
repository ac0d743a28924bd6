use Rattle.std.proofs.Common.{◌≡◌, set}
use Rattle.mixed_graph.specs.Vocabulary.{has}
use Rattle.count_eval.specs.Vocabulary.{weights_in, cell_of}
use Rattle.natural_bounds.specs.Vocabulary.{tightest_below, tightest_over}
use Rattle.crossed_bounds.specs.Vocabulary.{levels_bound}
use Rattle.bound_values.specs.Questions.{asked_of}
use Rattle.bound_values.specs.Values.{fraction_of}
use Rattle.bound_values.proofs.pairs.+crossed_below.Given as goal

abbrev pub decreases-crossed_below : goal.decreases-crossed_below
decreases-crossed_below l = l.v

abbrev pub invariant-loop-x : goal.invariant-loop-x
invariant-loop-x l =
    let n = weights_in l.scope.n l.scope.counts.now in let q = l.scope.question in let z = has q.instruments.bits in
    fraction_of l.best ≡ tightest_below l.end l.x (λ x. tightest_over l.end z n.size l.u
    (λ r. tightest_over l.end z n.size l.scope.n (levels_bound l.end n (asked_of q) r) (cell_of l.cell)) (cell_of (set l.first l.u x)))
