-- What other crates cite of this one, from one place.
pub use Rattle.instrument_sets.specs.Instruments.{AreCandidates}
pub use Rattle.instrument_sets.specs.Strata.{AreMinimalStrata}
