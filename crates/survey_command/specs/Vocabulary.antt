-- What other crates cite of this one, from one place.
pub use Rattle.survey_command.specs.Command.{survey_command}
