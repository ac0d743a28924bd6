-- What other crates cite of this one, from one place.
pub use Rattle.part_checks.specs.Making.{AreWellMade, IsWellMade}
pub use Rattle.part_checks.specs.Natural.{AcceptsNatural, AreNaturallyAccepted, IsNaturalFault}
pub use Rattle.part_checks.specs.Treated.{AcceptsTreated, AreAcceptedAmong, IsTreatedFault}
