use Rattle.std.proofs.Common.{codes, ◌++◌, ap, ◌∙◌}
use Rattle.expr_text.specs.Vocabulary.{text_of}
use Rattle.identify_text.specs.Vocabulary.{effect_term}
use Rattle.natural_command.specs.Sentences.{joint_of, effect_text}
use Rattle.natural_command.proofs.Pieces.{five}
use Rattle.natural_command.proofs.texts.read_twice_text.Goals as goal

pub returns : goal.returns
returns c =
    let names = c.args.names.now in let a = c.args.asked in let x = a.question.x.bits in
    five (effect_text names a) (codes " is not identifiable\n") c.args.reader.now (text_of names (effect_term x (joint_of a))) (codes " is identifiable\n")
    c.in_ok-text.ensures c.in_ok-extend_from_slice.ensures.items c.in_ok-extend_from_slice-2.ensures.items
    (c.in_ok-extend_from_slice-3.ensures.items ∙ ap (λ t. c.extend_from_slice-2.new.self.items ++ t)
    (c.as_slice.ensures.value ∙ c.in_ok-joint.ensures ∙ ap (λ y. text_of names (effect_term x y)) c.joint_of.ensures))
    c.in_ok-extend_from_slice-4.ensures.items
