-- What other crates cite of this one, from one place.
pub use Rattle.derived_parts.specs.Parts.{AreSound, IsSound, PlainDerivedPart, derived_view, derived_views}
pub use Rattle.derived_parts.specs.Accepted.{AreAccepted, IsAcceptedPart, IsPartFault, IsPartsFault, UnlessMemory, district_target}
