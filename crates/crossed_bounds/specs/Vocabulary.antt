-- What other crates cite of this one, from one place.
pub use Rattle.crossed_bounds.specs.Crossed.{IsTwoValued, PairedBoundsHold, PairedCrossedHaveNoModel, at_level, chosen, crossed_bound, levels_bound, other, paired_bound, paired_effect, shown, two_levels, untaken}
