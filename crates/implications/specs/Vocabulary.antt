-- What other crates cite of this one, from one place.
pub use Rattle.implications.specs.Implications.{AreImplications, IsBefore, IsImplication, IsOf}
pub use Rattle.implications.specs.Separable.{AreIndependentGivenSome, IsGivenSet, IsSeparable, IsThinned, only, rest_at}
