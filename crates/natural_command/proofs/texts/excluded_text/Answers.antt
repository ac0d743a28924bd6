use Rattle.std.proofs.Common.{codes, ◌++◌, ap, ◌∙◌}
use Rattle.identify_text.specs.Vocabulary.{hedge_answer}
use Rattle.natural_command.specs.Sentences.{joint_of, effect_text, nil_lines}
use Rattle.natural_command.proofs.Pieces.{four}
use Rattle.natural_command.proofs.texts.excluded_text.Goals as goal

pub returns : goal.returns
returns c =
    let names = c.args.names.now in let a = c.args.asked in let x = a.question.x.bits in let h = c.args.h.now in let pair = c.args.pair.now in
    four (effect_text names a) (codes " is not identifiable\n") (hedge_answer names x (joint_of a) h pair) (nil_lines names a)
    c.in_ok-text.ensures c.in_ok-extend_from_slice.ensures.items
    (c.in_ok-extend_from_slice-2.ensures.items ∙ ap (λ t. c.extend_from_slice.new.self.items ++ t)
    (c.as_slice.ensures.value ∙ c.in_ok-joint.ensures ∙ ap (λ y. hedge_answer names x y h pair) c.joint_of.ensures))
    c.in_ok-push_nil.ensures
