-- What other crates cite of this one, from one place.
pub use Rattle.further_lists.specs.Faults.{IsFaultOfAll, IsFurtherFault, further_fault}
