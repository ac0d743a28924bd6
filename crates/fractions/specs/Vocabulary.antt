-- What other crates cite of this one, from one place.
pub use Rattle.fractions.specs.Fractions.{Fraction, IsEqual, IsPositive, add, add_below, div, mul, over}
