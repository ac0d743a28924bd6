-- What other crates cite of this one, from one place.
pub use Rattle.treated_id.specs.Answers.{IsConfounding, IsPair, IsPairOrNone}
pub use Rattle.treated_id.specs.Right.{IsTreatedTarget}
pub use Rattle.treated_id.specs.Sets.{AreAncestors, AreBefore, IsAfter, IsConfounded}
pub use Rattle.treated_id.specs.Terms.{AreNames, IsFormula}
