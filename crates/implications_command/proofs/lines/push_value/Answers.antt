use Rattle.std.proofs.Common.{◌++◌, ◌∙◌, ap}
use Rattle.std.proofs.Math.Facts.{to_z-of_z}
use Rattle.implications_command.specs.Lines.{value_text}
use Rattle.implications_command.proofs.lines.push_value.Goals as goal

pub returns : goal.returns
returns c =
    c.in_ok-extend_from_slice.ensures.items
    ∙ ap (λ b. c.args.out.now.items ++ b) (c.as_bytes.ensures.value ∙ c.in_ok-text.ensures.ok ∙ ap value_text (to_z-of_z c.ranges.value))
