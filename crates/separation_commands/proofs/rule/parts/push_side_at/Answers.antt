use Rattle.std.proofs.Common.{◌≡◌, ◌++◌, ◌∙◌, OnOk, ap, subst}
use Rattle.answer_json.specs.Vocabulary.{with_member, text_json}
use Rattle.separation_commands.specs.RuleLines.{side_text, side_of}
use Rattle.separation_commands.proofs.rule.parts.push_side_at.Goals as goal

pub returns : goal.returns
returns c = subst (λ t. OnOk c.text_at.result (c.text_at.new.self ≡ with_member c.args.key.now (text_json t) c.args.object.now))
    (c.as_slice.ensures.value ∙ c.in_ok-push_side.ensures ∙ ap (λ l. l ++ side_text c.args.names.now (side_of c.args.side)) c.new-text.ensures.items)
    c.text_at.ensures
