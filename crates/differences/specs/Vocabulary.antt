-- What other crates cite of this one, from one place.
pub use Rattle.differences.specs.Kinds.{Subtraction, gives_some}
pub use Rattle.differences.specs.Lawful.{IsLawfulDifference}
pub use Rattle.differences.specs.Minus.{IsAtMost, minus}
