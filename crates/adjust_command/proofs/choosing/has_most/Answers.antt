use Rattle.std.proofs.Common.{sym, ap, refl, ◌∙◌}
use Rattle.std.specs.Prelude.{is_some}
use Rattle.adjust_command.specs.Requests.{adjust_row}
use Rattle.adjust_command.proofs.Ranges.{some_of_value}
use Rattle.adjust_command.proofs.choosing.has_most.Goals as goal

pub returns : goal.returns
returns c = λ uses g. c.is_some.ensures ∙ sym (some_of_value (λ s. s.now) c.option.result) ∙ ap is_some (c.option.ensures adjust_row uses g refl)
