-- What other crates cite of this one, from one place.
pub use Rattle.surrogate_command.specs.Command.{surrogate_command}
pub use Rattle.surrogate_command.specs.Forms.{told_form, wants_common}
pub use Rattle.surrogate_command.specs.Requests.{surrogate_row}
pub use Rattle.surrogate_command.specs.Right.{IsForNames, IsStop, IsSurrogateAnswer, stop_shown}
pub use Rattle.surrogate_command.specs.Sets.{IsSurrogateFault, SurrogateLists, surrogate_fault, surrogate_lists}
pub use Rattle.surrogate_command.specs.Telling.{surrogate_telling}
