-- What other crates cite of this one, from one place.
pub use Rattle.span_call.specs.Called.{LacksInput}
pub use Rattle.span_call.specs.Ends.{IsEnd}
pub use Rattle.span_call.specs.Keeping.{HasKept}
pub use Rattle.span_call.specs.Wanted.{AskForNothing, TellsInputs}
