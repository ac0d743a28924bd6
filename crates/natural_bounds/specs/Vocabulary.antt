-- What other crates cite of this one, from one place.
pub use Rattle.natural_bounds.specs.Bounds.{Asked, BoundsEffect, BoundsHold, CrossedHaveNoModel, HasNoModel, IsAskedOf, IsCellOf, bound_at, condition, effect_bound, fixed, joint, level, said, share, stratum, stratum_bound, treated}
pub use Rattle.natural_bounds.specs.Drawn.{BoundsAsDrawn, HasNoModelAsDrawn}
pub use Rattle.natural_bounds.specs.Instruments.{IsInstrument, IsInstrumentFault}
pub use Rattle.natural_bounds.specs.Natural.{nothing}
pub use Rattle.natural_bounds.specs.Orders.{IsAtMost, IsIn, tighter, tightest_below, tightest_over, trivial}
