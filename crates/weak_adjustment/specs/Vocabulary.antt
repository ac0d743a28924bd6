-- What other crates cite of this one, from one place.
pub use Rattle.weak_adjustment.specs.Weakly.{AdmissibleAdjustsMatched, IsWeaklyPositive}
