-- What other crates cite of this one, from one place.
pub use Rattle.latent_projection.specs.Projection.{AreBefore, IsProjection, LeadsThrough}
pub use Rattle.latent_projection.specs.Removal.{through, without}
pub use Rattle.latent_projection.specs.Renumbering.{IsObserved, names_at, observed_below, renumbered, renumbered_set}
