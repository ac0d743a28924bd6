-- What other crates cite of this one, from one place.
pub use Rattle.natural_values.specs.Factors.{natural_factors}
pub use Rattle.natural_values.specs.Naming.{free_in_factors, mentioned_in_factors}
pub use Rattle.natural_values.specs.Right.{AreFactorsNested}
