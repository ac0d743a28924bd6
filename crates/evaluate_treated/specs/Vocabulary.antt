-- What other crates cite of this one, from one place.
pub use Rattle.evaluate_treated.specs.Command.{evaluate_treated_command, evaluate_treated_left}
pub use Rattle.evaluate_treated.specs.Effects.{HasPath, Identifies, IsHeld, PlainAmong, among_in}
pub use Rattle.evaluate_treated.specs.First.{IsForDiagram}
pub use Rattle.evaluate_treated.specs.Requests.{request_of}
pub use Rattle.evaluate_treated.specs.Right.{CoversAmong, IsForCounts, NoModelHas, shown_in}
pub use Rattle.evaluate_treated.specs.Telling.{among_telling}
