use Rattle.std.proofs.Common.{ap, ◌∙◌, ◌++◌}
use Rattle.answer_text.specs.Vocabulary.{set_text}
use Rattle.natural_command.specs.Sentences.{list_text}
use Rattle.natural_command.proofs.effects.push_list.Goals as goal

pub returns : goal.returns
returns c = c.in_ok-extend_from_slice.ensures.items
    ∙ ap (λ t. c.args.out.now.items ++ t) (c.inner.ensures 123 125 (list_text c.args.names.now c.args.set.bits) (c.as_slice.ensures.value ∙ c.in_ok-push_set.ensures
    ∙ ap (λ t. t ++ set_text c.args.names.now c.args.set.bits) c.new-text.ensures.items))
