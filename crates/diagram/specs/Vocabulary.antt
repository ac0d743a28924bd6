-- What other crates cite of this one, from one place.
pub use Rattle.diagram.specs.Observed.{IsObservedGraph, IsObservedPart, observed_names}
pub use Rattle.diagram.specs.Sets.{Names, effect_lists, lent, query_lists, rule_lists}
