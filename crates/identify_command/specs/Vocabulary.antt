-- What other crates cite of this one, from one place.
pub use Rattle.identify_command.specs.Command.{identify_command}
pub use Rattle.identify_command.specs.Forms.{told_form}
pub use Rattle.identify_command.specs.Requests.{IsRequest, identify_row}
pub use Rattle.identify_command.specs.Right.{AreTargetSets, Asked, IsAnswerFor, IsFaultFor, IsForEffect, IsForNames, IsForTarget, IsIdentifyAnswer, IsJointHedge, a_target, an_effect, asked_of}
pub use Rattle.identify_command.specs.Telling.{identify_telling}
