-- What other crates cite of this one, from one place.
pub use Rattle.split_values.specs.Code.{IsSplitEvaluable}
pub use Rattle.split_values.specs.Laws.{AreObservedAt, IsObservedSplit, IsSplitTarget}
pub use Rattle.split_values.specs.Outcomes.{split_outcome}
pub use Rattle.split_values.specs.Values.{IsNotBelow, is_same, share_of, split_supported, split_value}
