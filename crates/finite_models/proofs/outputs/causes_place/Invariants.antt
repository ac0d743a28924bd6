use Rattle.std.proofs.Common.{◌≡◌, ◌+◌, ◌*◌, ◌/◌}
use Rattle.mixed_graph.specs.Vocabulary.{has}
use Rattle.finite_models.specs.Sums.{product_below}
use Rattle.finite_models.specs.Tables.{radix, radix_range}
use Rattle.finite_models.specs.Data.{children_of}
use Rattle.finite_models.specs.Worlds.{values_of, value_in_world}
use Rattle.finite_models.proofs.outputs.causes_place.Given as goal

abbrev pub invariant-loop-j : goal.invariant-loop-j
invariant-loop-j l = record {
  rest : l.rest ≡ l.world / product_below l.j (values_of l.m.causes.items);
  place : l.place ≡ l.start * radix_range l.j (λ j. has (children_of l.m.causes.items j) l.v) (values_of l.m.causes.items)
      + radix l.j (λ j. has (children_of l.m.causes.items j) l.v) (values_of l.m.causes.items) (value_in_world l.m.causes.items l.world);
}
