use Rattle.std.proofs.Common.{◌≡◌, ◌/◌, get_or}
use Rattle.finite_models.specs.Sums.{product_below}
use Rattle.finite_models.specs.Data.{weights_of}
use Rattle.finite_models.specs.Worlds.{values_of, value_in_world}
use Rattle.finite_models.proofs.worlds.world_weight.Given as goal

abbrev pub invariant-loop-j : goal.invariant-loop-j
invariant-loop-j l = record {
  rest : l.rest ≡ l.world / product_below l.j (values_of l.m.causes.items);
  weight : l.weight ≡ product_below l.j (λ j. get_or (weights_of l.m.causes.items j) (value_in_world l.m.causes.items l.world j) 0);
}
