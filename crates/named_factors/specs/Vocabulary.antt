-- What other crates cite of this one, from one place.
pub use Rattle.named_factors.specs.Covers.{AreFactorsAmong, alone}
pub use Rattle.named_factors.specs.Named.{AreNamedFactors}
pub use Rattle.named_factors.specs.Shapes.{IsOverOthers, IsSumOfTerms}
