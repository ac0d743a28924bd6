-- What other crates cite of this one, from one place.
pub use Rattle.counter_models.specs.Events.{AreCounterModels}
pub use Rattle.counter_models.specs.Experiments.{IsHarmlessTo}
pub use Rattle.counter_models.specs.Hedges.{IsWholeHedge, ParityHedge, outsider}
pub use Rattle.counter_models.specs.Kept.{AreCarriers, IsCarrier}
pub use Rattle.counter_models.specs.Links.{Link, is_end}
pub use Rattle.counter_models.specs.Pairs.{AreCauses, IsCarriedPart, IsCauseAt, IsHedgePart, IsMechanismOf, IsModelOf, IsPairOf, IsPartWhere, before, in_first, in_second, is_linked, kept_cause, link_causes, small_cause}
pub use Rattle.counter_models.specs.Parities.{bit, chosen}
pub use Rattle.counter_models.specs.ParityLaws.{DifferAtEach}
pub use Rattle.counter_models.specs.ParityPairs.{at_first, at_second, carried_bit, carries, chooses, first_bit, first_mechanism, first_model, hedge_bit, second_bit, second_mechanism, serves_of, size_of, top_bit, value, world_bit}
pub use Rattle.counter_models.specs.Theory.{data_of}
