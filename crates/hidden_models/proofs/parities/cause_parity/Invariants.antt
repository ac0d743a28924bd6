use Rattle.std.proofs.Common.{◌≡◌, ◌%◌, sum_by, take, get_or}
use Rattle.hidden_models.proofs.parities.cause_parity.Given as goal

abbrev pub invariant-loop-j : goal.invariant-loop-j
invariant-loop-j l = l.parity ≡ sum_by (λ j. get_or l.world j 0) (take l.j-index l.causes) % 2
