use Rattle.std.proofs.Common.{codes, ◌++◌, ap, ◌∙◌}
use Rattle.identify_text.specs.Vocabulary.{vertex_text}
use Rattle.treated_command.specs.Sentences.{split_text}
use Rattle.treated_command.proofs.Pieces.{five}
use Rattle.treated_command.proofs.texts.two_values_line.Goals as goal

pub returns : goal.returns
returns c =
    let names = c.args.names.now in let a = c.args.asked in
    five (codes "two values of ") (vertex_text names c.args.c.now.treatment) (codes ": ") (split_text names a) (codes "\n")
    (c.in_ok-extend_from_slice.ensures.items ∙ ap (λ t. t ++ codes "two values of ") c.new-line.ensures.items)
    c.in_ok-push_vertex.ensures c.in_ok-extend_from_slice-2.ensures.items
    (c.in_ok-extend_from_slice-3.ensures.items ∙ ap (λ t. c.extend_from_slice-2.new.self.items ++ t) (c.as_slice.ensures.value ∙ c.in_ok-split.ensures))
    c.in_ok-push.ensures.items
