use Rattle.std.proofs.Common.{◌≡◌, ◌<◌, ◌^◌}
use Rattle.finite_models.specs.Sums.{product_below}
use Rattle.finite_models.specs.Worlds.{weight_sum}
use Rattle.finite_models.proofs.worlds.total_weight.Given as goal

abbrev pub invariant-loop-j : goal.invariant-loop-j
invariant-loop-j l = record { so_far : l.total ≡ product_below l.j (weight_sum l.m.causes.items); small : l.total < 2 ^ 128 }
