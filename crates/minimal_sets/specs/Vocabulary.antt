-- What other crates cite of this one, from one place.
pub use Rattle.minimal_sets.specs.Frames.{IsFrame}
pub use Rattle.minimal_sets.specs.Listings.{IsListingOf}
pub use Rattle.minimal_sets.specs.MinimalSets.{IsMinimalAdjustment, IsMinimalSet}
pub use Rattle.minimal_sets.specs.Moral.{IsNear, Meets}
pub use Rattle.minimal_sets.specs.Rows.{is_near}
pub use Rattle.minimal_sets.specs.Separators.{IsMinimalSeparator, IsPart, IsSeparator}
