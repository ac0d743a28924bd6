-- What other crates cite of this one, from one place.
pub use Rattle.steps_command.specs.Command.{steps_command, steps_left}
pub use Rattle.steps_command.specs.Requests.{steps_row}
pub use Rattle.steps_command.specs.Right.{IsExplained, IsForCertificate, IsForFirst, IsTold, checked_of}
pub use Rattle.steps_command.specs.Telling.{steps_telling}
