use Rattle.std.proofs.Common.{◌≡◌, ◌∙◌, string_bytes}
use Rattle.std.proofs.lemmas.Result.{IfOk-weaker}
use Rattle.quantity.specs.Vocabulary.{units_text}
use Rattle.quantity.proofs.TextSteps.{units_written}
use Rattle.bounds_command.proofs.lines.units_text.Goals as goal

pub returns : goal.returns
returns c =
    let options = c.laid_out.ensures in let written = rw options at c.format.ensures.ok in
    IfOk-weaker c.format.result _ (λ text. string_bytes text ≡ units_text c.args.n) (λ text e. e ∙ units_written c.args.n) written
