-- What other crates cite of this one, from one place.
pub use Rattle.broken_pairs.specs.Broken.{IsBroken, IsFirstBroken, is_apart}
