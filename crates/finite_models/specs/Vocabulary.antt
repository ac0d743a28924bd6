-- What other crates cite of this one, from one place.
pub use Rattle.finite_models.specs.Agreement.{AgreeObserved, AgreeUnder}
pub use Rattle.finite_models.specs.Data.{carried_bit, carries, children_of, has_carried, has_hedge, hedge_bit, hedged, meaning, parity_value, part_bit, place_in_table, value_by, weights_of}
pub use Rattle.finite_models.specs.Faults.{IsSoundModel}
pub use Rattle.finite_models.specs.Inputs.{CarriedMayRead, HasInputs, HasPartSize, HasValues, HedgeMayRead, IsBitCause, MayRead, parity_size, places_of}
pub use Rattle.finite_models.specs.Models.{FiniteModel, Fits, IsAssignment, IsPositiveModel, IsSolution, IsWorld, agree, event_weight, intervene, probability, rounds, solution, sum_worlds, total, weight_of, world_weight}
pub use Rattle.finite_models.specs.Parities.{differ, odd_below}
pub use Rattle.finite_models.specs.Served.{ServesTwo}
pub use Rattle.finite_models.specs.Sound.{AllRight, IsFirstWrong, IsSoundCause}
pub use Rattle.finite_models.specs.Sums.{all_below, product_below, set_at, sum_below, sum_over}
pub use Rattle.finite_models.specs.Tables.{radix, radix_range, table_index, table_range, table_value}
pub use Rattle.finite_models.specs.Worlds.{HasCauses, HaveCauses, IsAcceptedModel, values_of}
-- These may be unfolded there.
unfoldable pub use Rattle.finite_models.specs.Packed.{mask_of}
