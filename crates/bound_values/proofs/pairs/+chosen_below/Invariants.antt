use Rattle.std.proofs.Common.{◌≡◌, set}
use Rattle.mixed_graph.specs.Vocabulary.{has}
use Rattle.finite_models.specs.Vocabulary.{sum_below, sum_over}
use Rattle.count_eval.specs.Vocabulary.{weights_in, cell_of}
use Rattle.bound_values.specs.Questions.{asked_of}
use Rattle.bound_values.proofs.Pairing.{pair_term}
use Rattle.bound_values.proofs.pairs.+chosen_below.Given as goal

abbrev pub decreases-chosen_below : goal.decreases-chosen_below
decreases-chosen_below l = l.v

abbrev pub invariant-loop-x : goal.invariant-loop-x
invariant-loop-x l =
    let n = weights_in l.scope.n l.scope.counts.now in let q = l.scope.question in
    l.total ≡ sum_below l.x (λ x. sum_over (has q.y.bits) n.size l.u (pair_term l.end n (asked_of q) (cell_of l.first) (cell_of l.second)) (cell_of (set l.first l.u x)))
