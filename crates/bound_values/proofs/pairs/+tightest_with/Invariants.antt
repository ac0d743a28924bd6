use Rattle.std.proofs.Common.{◌≡◌, set}
use Rattle.mixed_graph.specs.Vocabulary.{has}
use Rattle.count_eval.specs.Vocabulary.{weights_in, cell_of}
use Rattle.natural_bounds.specs.Vocabulary.{tightest_below, tightest_over}
use Rattle.crossed_bounds.specs.Vocabulary.{levels_bound}
use Rattle.bound_values.specs.Questions.{asked_of}
use Rattle.bound_values.specs.Values.{fraction_of}
use Rattle.bound_values.proofs.pairs.+tightest_with.Given as goal

abbrev pub decreases-tightest_with : goal.decreases-tightest_with
decreases-tightest_with l = l.v

abbrev pub invariant-loop-x : goal.invariant-loop-x
invariant-loop-x l =
    let n = weights_in l.scope.n l.scope.counts.now in let q = l.scope.question in
    fraction_of l.best ≡ tightest_below l.end l.x (λ x. tightest_over l.end (has q.instruments.bits) n.size l.u
    (levels_bound l.end n (asked_of q) (cell_of l.first)) (cell_of (set l.second l.u x)))
