-- What other crates cite of this one, from one place.
pub use Rattle.m_separation.specs.Paths.{IsOpenPath, steps_from}
pub use Rattle.m_separation.specs.Walks.{ArePassed, ArePassedFrom, Avoids, HasOpenWalk, IsJoined, IsOpenWalk, IsPassed, IsPath, IsSeparated, IsWalk, Step, heads_first, heads_second, last}
