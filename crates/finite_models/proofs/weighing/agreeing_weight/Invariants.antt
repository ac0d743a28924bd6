use Rattle.std.proofs.Common.{◌≡◌, get_or}
use Rattle.mixed_graph.specs.Vocabulary.{has, graph_of}
use Rattle.finite_models.specs.Sums.{sum_below}
use Rattle.finite_models.proofs.Agreeing.{counted}
use Rattle.finite_models.proofs.weighing.agreeing_weight.Given as goal

abbrev pub invariant-loop-world : goal.invariant-loop-world
invariant-loop-world l = l.sum ≡ sum_below l.world (counted (graph_of l.g) l.m (has l.do_set.bits) (has l.event.bits) (λ v. get_or l.at v 0))
