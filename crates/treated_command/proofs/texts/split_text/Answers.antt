use Rattle.std.proofs.Common.{codes, ◌++◌, ap, ◌∙◌}
use Rattle.mixed_graph.specs.Vocabulary.{union}
use Rattle.expr_text.specs.Vocabulary.{text_of}
use Rattle.identify_text.specs.Vocabulary.{effect_term}
use Rattle.treated_command.specs.Sentences.{joint_of, share_text}
use Rattle.treated_command.proofs.Pieces.{five}
use Rattle.treated_command.proofs.texts.split_text.Goals as goal

pub returns : goal.returns
returns c =
    let names = c.args.names.now in let a = c.args.asked in let x = a.sets.x.bits in
    five (text_of names (effect_term x (joint_of a))) (codes " = ") (text_of names (effect_term 0 (union (joint_of a) x))) (codes " + ")
    (share_text names a)
    (c.in_ok-text.ensures ∙ ap (λ y. text_of names (effect_term x y)) c.joint_of-joint.ensures)
    c.in_ok-extend_from_slice.ensures.items
    (c.in_ok-extend_from_slice-2.ensures.items ∙ ap (λ t. c.extend_from_slice.new.self.items ++ t)
    (c.as_slice.ensures.value ∙ c.in_ok-observed.ensures
    ∙ ap (λ y. text_of names (effect_term 0 y)) (c.union-all.ensures.mask ∙ ap (λ y. union y x) c.joint_of-joint.ensures)))
    c.in_ok-extend_from_slice-3.ensures.items
    (c.in_ok-extend_from_slice-4.ensures.items ∙ ap (λ t. c.extend_from_slice-3.new.self.items ++ t)
    (c.as_slice-2.ensures.value ∙ c.in_ok-share.ensures))
