-- What other crates cite of this one, from one place.
pub use Rattle.instruments_command.specs.Command.{instruments_command}
