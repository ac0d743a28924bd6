-- What other crates cite of this one, from one place.
pub use Rattle.evaluate_natural.specs.Command.{evaluate_natural_command, evaluate_natural_left}
pub use Rattle.evaluate_natural.specs.Effects.{Identifies, PlainNested, nested_in}
pub use Rattle.evaluate_natural.specs.First.{IsForDiagram}
pub use Rattle.evaluate_natural.specs.Requests.{request_of}
pub use Rattle.evaluate_natural.specs.Right.{CoversNested, IsForCounts, IsOverTable}
pub use Rattle.evaluate_natural.specs.Telling.{nested_telling}
