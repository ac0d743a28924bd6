use Rattle.std.proofs.Common.{codes, ◌++◌, ap, ◌∙◌}
use Rattle.identify_text.specs.Vocabulary.{hedge_answer}
use Rattle.treated_command.specs.Sentences.{joint_of, effect_text, confounding_text}
use Rattle.treated_command.proofs.Pieces.{four}
use Rattle.treated_command.proofs.texts.excluded_text.Goals as goal

pub returns : goal.returns
returns c =
    let names = c.args.names.now in let a = c.args.asked in let h = c.args.h.now in let pair = c.args.pair.now in
    four (effect_text names a) (codes " is not identifiable\n") (confounding_text names c.args.c.now) (hedge_answer names a.sets.x.bits (joint_of a) h pair)
    c.in_ok-text.ensures c.in_ok-extend_from_slice.ensures.items c.in_ok-push_confounding.ensures
    (c.in_ok-extend_from_slice-2.ensures.items ∙ ap (λ t. c.push_confounding.new.out.items ++ t)
    (c.as_slice.ensures.value ∙ c.in_ok-joint.ensures ∙ ap (λ y. hedge_answer names a.sets.x.bits y h pair) c.joint_of.ensures))
