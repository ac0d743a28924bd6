use Rattle.std.proofs.Common.{◌≡◌, ◌/◌}
use Rattle.finite_models.specs.Sums.{product_below}
use Rattle.finite_models.specs.Worlds.{values_of}
use Rattle.finite_models.proofs.worlds.cause_value.Given as goal

abbrev pub invariant-loop-k : goal.invariant-loop-k
invariant-loop-k l = l.rest ≡ l.world / product_below l.k (values_of l.m.causes.items)
