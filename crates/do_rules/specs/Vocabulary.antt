-- What other crates cite of this one, from one place.
pub use Rattle.do_rules.specs.Cuts.{cut_into, cut_out}
pub use Rattle.do_rules.specs.Rules.{AreDependent, AreEqualSides, AreFourSets, AreIndependent, AreThreeSets, DifferSomewhere, IsBlockedFor, IsFarPart, IsOpenFor, IsRuleFor, IsRuleGraph, Side, left_of, number_of, right_of, side_value}
