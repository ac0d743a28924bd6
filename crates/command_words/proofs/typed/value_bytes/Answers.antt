use Rattle.std.proofs.Common.{◌∙◌, Some, ap}
use Rattle.command_words.proofs.typed.value_bytes.Goals as goal

pub returns-in-Some : goal.returns-in-Some
returns-in-Some c = λ row uses g known. ap (λ t. Some t) c.as_bytes.ensures.value ∙ c.in-Some.ensures row uses g known
