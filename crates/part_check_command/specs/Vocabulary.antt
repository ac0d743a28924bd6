-- What other crates cite of this one, from one place.
pub use Rattle.part_check_command.specs.Command.{part_check_command, part_check_left}
pub use Rattle.part_check_command.specs.Faults.{part_check_refusal}
pub use Rattle.part_check_command.specs.Right.{HoldsParts, IsAcceptedAmong, IsAcceptedNested, IsFault, IsForCertificate, IsForFirst, IsForText, IsOfNested, IsOfTreated}
pub use Rattle.part_check_command.specs.Telling.{part_check_telling}
