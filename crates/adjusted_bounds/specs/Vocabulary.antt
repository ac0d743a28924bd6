-- What other crates cite of this one, from one place.
pub use Rattle.adjusted_bounds.specs.Adjusted.{AdjustedBoundsHold, IsAdjusted, adjusted_at, adjusted_bound}
