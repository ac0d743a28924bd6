-- What other crates cite of this one, from one place.
pub use Rattle.adjustment.specs.Criteria.{IsAdmissible, IsBackDoorSet, IsForbidden}
pub use Rattle.adjustment.specs.Faults.{IsAdjustmentFault, IsBackDoorFault, steps_of}
pub use Rattle.adjustment.specs.Formulas.{adjusted_sum, adjustment_formula}
pub use Rattle.adjustment.specs.Proper.{IsBackDoorGraph, IsBetween}
