-- What other crates cite of this one, from one place.
pub use Rattle.factor_values.specs.Code.{AreEvaluable, factor_view, factors_view}
pub use Rattle.factor_values.specs.Factors.{PlainFactor, PlainFactors, chance_of, factors_product, factors_supported, factors_value, read_at}
pub use Rattle.factor_values.specs.Laws.{AreObserved, IsObservedFactor}
pub use Rattle.factor_values.specs.Outcomes.{factors_outcome}
