-- What other crates cite of this one, from one place.
pub use Rattle.adjust_command.specs.Command.{adjust_command}
pub use Rattle.adjust_command.specs.Lines.{not_admissible_text}
pub use Rattle.adjust_command.specs.Objects.{not_admissible_members}
pub use Rattle.adjust_command.specs.Queries.{by_back_door, by_set, listing}
pub use Rattle.adjust_command.specs.Requests.{adjust_row}
pub use Rattle.adjust_command.specs.Right.{Decides, IsAdjustAnswer, IsAdjustFault, IsNotDecided}
pub use Rattle.adjust_command.specs.Telling.{adjust_telling}
pub use Rattle.adjust_command.specs.Verdicts.{IsVerdict}
