-- What other crates cite of this one, from one place.
pub use Rattle.treated_command.specs.Command.{treated_command}
pub use Rattle.treated_command.specs.Faults.{IsAfterOrMemory, treated_refusal}
pub use Rattle.treated_command.specs.Requests.{treated_row}
pub use Rattle.treated_command.specs.Right.{IsAskedFor, IsFaultOfSets, IsLowestAfter, IsSetsFaultOrMemory, IsTreatedAnswer, MayBeAsked}
pub use Rattle.treated_command.specs.Sentences.{effect_text}
pub use Rattle.treated_command.specs.Telling.{treated_telling}
