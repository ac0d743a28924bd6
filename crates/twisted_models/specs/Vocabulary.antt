-- What other crates cite of this one, from one place.
pub use Rattle.twisted_models.specs.Pairs.{AreApart, DifferOnNested}
pub use Rattle.twisted_models.specs.Twisted.{IsTwist}
