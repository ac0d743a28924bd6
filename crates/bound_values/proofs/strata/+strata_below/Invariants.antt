use Rattle.std.proofs.Common.{◌≡◌, set, Ok}
use Rattle.mixed_graph.specs.Vocabulary.{has}
use Rattle.count_eval.specs.Vocabulary.{weights_in, cell_of}
use Rattle.bound_values.specs.Questions.{asked_of}
use Rattle.bound_values.specs.Values.{total_below, total_over, term_value}
use Rattle.bound_values.proofs.strata.+strata_below.Given as goal

abbrev pub decreases-strata_below : goal.decreases-strata_below
decreases-strata_below g l = l.v

abbrev pub invariant-loop-x : goal.invariant-loop-x
invariant-loop-x g l =
    let n = weights_in l.scope.n l.scope.counts.now in let q = l.scope.question in let kind = g.Q.Quantity.kind in
    total_below kind l.x (λ x. total_over kind (has q.strata.bits) n.size l.u (term_value kind q.method l.end n (asked_of q)) (cell_of (set l.cell l.u x)))
    ≡ Ok (g.Q.Quantity.numbers l.total)
