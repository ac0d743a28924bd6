use Rattle.std.proofs.Common.{◌≡◌, ◌+◌, ◌^◌, min}
use Rattle.finite_models.specs.Sums.{product_below}
use Rattle.finite_models.specs.Worlds.{values_of}
use Rattle.finite_models.proofs.worlds.count_worlds.Given as goal

abbrev pub invariant-loop-j : goal.invariant-loop-j
invariant-loop-j l = l.count ≡ min (product_below l.j (values_of l.m.causes.items)) (2 ^ 20 + 1)
