use Rattle.std.proofs.Common.{◌≡◌, ℕ, List, IfOk, subst, ◌∙◌}
use Rattle.natural_id.specs.declared.answers.Part.{Part}
use Rattle.treated_command.specs.Vocabulary.{effect_text as effect_among_text}
use Rattle.part_check_command.specs.Lines.{accepted_text}
use Rattle.part_check_command.proofs.texts.treated_text.Goals as goal

pub returns : goal.returns
returns c =
    let names = c.args.names.now in
    subst (λ (l : List Part). IfOk c.accepted_text.result (λ v. v.items ≡ accepted_text names (effect_among_text names c.args.asked) l)) c.as_slice-2.ensures.value
    (subst (λ (e : List ℕ). IfOk c.accepted_text.result (λ v. v.items ≡ accepted_text names e c.as_slice-2.result.now))
    (c.as_slice.ensures.value ∙ c.in_ok-effect.ensures) c.accepted_text.ensures)
