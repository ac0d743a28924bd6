use Rattle.std.proofs.Common.{◌≡◌, ◌%◌, cond, get_or}
use Rattle.mixed_graph.specs.Vocabulary.{has}
use Rattle.finite_models.specs.Sums.{sum_below}
use Rattle.finite_models.specs.Data.{hedge_bit}
use Rattle.finite_models.proofs.parities.hedge_parity.Given as goal

abbrev pub invariant-loop-v : goal.invariant-loop-v
invariant-loop-v l = l.parity ≡ sum_below l.v (λ k. cond (has l.members.bits k) (hedge_bit (get_or l.values k 0)) 0) % 2
