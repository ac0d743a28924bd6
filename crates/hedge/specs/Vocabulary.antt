-- What other crates cite of this one, from one place.
pub use Rattle.hedge.specs.Entries.{HasEntries}
pub use Rattle.hedge.specs.Faults.{IsFirstHedgeFault, IsWrongLink}
pub use Rattle.hedge.specs.Hedges.{AreRightLinks, IsChildInside, IsHedge, IsPlaced, IsRightChoice, Meets, Reaches, outside, size_of}
pub use Rattle.hedge.specs.Linked.{AreApart, AreDistricts, AreDistrictsOf, IsDistrict, IsInOne, IsInside, IsJoinedSet, IsLinked, IsMaximalJoined, IsPartition, IsSetOf}
pub use Rattle.hedge.specs.Linked.AreDistricts.{none, skip, take}
pub use Rattle.hedge.specs.Linked.IsLinked.{at, by}
pub use Rattle.hedge.specs.Listed.{first_masks}
pub use Rattle.hedge.specs.Nearest.{IsChoiceOf, IsDistance, IsNearestChild, Leads}
pub use Rattle.hedge.specs.Shapes.{AreSetsOfHedge, FormHedge, LeadsInto}
pub use Rattle.hedge.specs.Spanning.{AreLinks, IsEarliest, IsLowest, IsNextLink, IsNextOf}
