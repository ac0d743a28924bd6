-- What other crates cite of this one, from one place.
pub use Rattle.walk_models.specs.Laws.{IsBelowSomewhere, IsFirstIn, IsWalkTo, event}
pub use Rattle.walk_models.specs.Strict.{AreStrictFrom, IsCausalOutside, IsLate}
pub use Rattle.walk_models.specs.Visits.{IsStrict, IsWalkIn, Walk, head_after, head_before, is_collider, vertex_at}
