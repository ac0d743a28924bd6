-- What other crates cite of this one, from one place.
pub use Rattle.causal_io.specs.Causes.{Rose, risen}
pub use Rattle.causal_io.specs.Reading.{AnswersAll, IsReadOnce}
pub use Rattle.causal_io.specs.Shelf.{GivesFrom}
pub use Rattle.causal_io.specs.SureShelf.{held_surely}
