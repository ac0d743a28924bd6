-- What other crates cite of this one, from one place.
pub use Rattle.equivalent_command.specs.Command.{equivalent_command, equivalent_left}
pub use Rattle.equivalent_command.specs.Right.{IsForSecond}
pub use Rattle.equivalent_command.specs.SecondFaults.{second_refusal}
pub use Rattle.equivalent_command.specs.Telling.{equivalent_telling}
