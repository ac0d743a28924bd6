use Rattle.std.proofs.Common.{codes}
use Rattle.treated_command.specs.Sentences.{effect_text, confounding_text, two_values_text}
use Rattle.treated_command.proofs.Pieces.{four}
use Rattle.treated_command.proofs.texts.unfixed_text.Goals as goal

pub returns : goal.returns
returns c =
    let names = c.args.names.now in let a = c.args.asked in
    four (effect_text names a) (codes " is not identifiable\n") (confounding_text names c.args.c.now) (two_values_text names a c.args.c.now)
    c.in_ok-text.ensures c.in_ok-extend_from_slice.ensures.items c.in_ok-push_confounding.ensures c.in_ok-push_two_values.ensures
