use Rattle.std.proofs.Common.{◌≡◌, ◌*◌, ◌≤◌, ◌^◌, get_or}
use Rattle.finite_models.specs.Sums.{sum_below}
use Rattle.finite_models.proofs.worlds.sum_of.Given as goal

abbrev pub invariant-loop-w : goal.invariant-loop-w
invariant-loop-w l = record { so_far : l.sum ≡ sum_below l.w-index (λ i. get_or l.weights i 0); small : l.sum ≤ l.w-index * 2 ^ 32 }
