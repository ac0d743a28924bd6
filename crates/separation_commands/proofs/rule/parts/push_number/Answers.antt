use Rattle.std.proofs.Common.{◌≡◌, ◌∙◌, OnOk, codes, decimal, subst}
use Rattle.json.specs.Json.{number}
use Rattle.answer_json.specs.Vocabulary.{with_member}
use Rattle.separation_commands.proofs.rule.parts.push_number.Goals as goal

pub returns : goal.returns
returns c = subst (λ n. OnOk c.number_at.result (c.number_at.new.self ≡ with_member (codes "rule") (number (decimal n)) c.args.object.now))
    (c.from-number.ensures ∙ c.number.ensures) c.number_at.ensures
