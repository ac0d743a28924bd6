-- What other crates cite of this one, from one place.
pub use Rattle.implied_differences.specs.Differences.{IsLargest, IsReadable, axes_in, distance, first_of_pair, left, right, second_of_pair, whole_of}
pub use Rattle.implied_differences.specs.Laws.{IsZeroIfMatched, IsZeroWhereMatched}
