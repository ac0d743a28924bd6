-- What other crates cite of this one, from one place.
pub use Rattle.natural_command.specs.Asking.{natural_lists}
pub use Rattle.natural_command.specs.Command.{natural_command}
pub use Rattle.natural_command.specs.Faults.{IsAfterOrMemory, natural_refusal}
pub use Rattle.natural_command.specs.Objects.{asked_members}
pub use Rattle.natural_command.specs.Requests.{natural_row}
pub use Rattle.natural_command.specs.Right.{AreBefore, Decides, IsAskedFor, IsCertifiedFor, IsFaultOfQuestion, IsForQuestion, IsLowestAfter, IsNaturalAnswer, IsOfQuestion, IsQuestionFaultOrMemory, MayBeAsked}
pub use Rattle.natural_command.specs.Second.{names_read}
pub use Rattle.natural_command.specs.Sentences.{district_effect, effect_text, group_text}
pub use Rattle.natural_command.specs.Telling.{natural_telling}
