use Rattle.std.proofs.Common.{◌≡◌, ◌++◌, ◌∷◌, [], ℕ, List, take, get_or, sym, ap, ◌∙◌}
use Rattle.std.specs.List.{flat_map}
use Rattle.std.proofs.lemmas.List.{take_more, flat_map_more}
use Rattle.natural_id.specs.declared.answers.Part.{Part}
use Rattle.part_check_command.specs.Lines.{part_text}
use Rattle.part_check_command.proofs.texts.push_parts.Goals as goal

pub loop-part-preserved : goal.loop-part-preserved
loop-part-preserved c =
    let f : Part → List ℕ = part_text c.args.names.now in
    let parts : List Part = c.args.parts.now in
    let k : ℕ = c.loop-part.part-index in
    let d : Part = c.part-item.result in
    let at : d ≡ get_or parts k d = c.part-item.is in
    c.in_ok-push_part.ensures ∙ ap (λ t. t ++ f d) c.loop-part.invariant
    ∙ flat_map_more f c.args.out.now.items (take k parts) d
    ∙ ap (λ (l : List Part). c.args.out.now.items ++ flat_map f l)
    (ap (λ (p : Part). take k parts ++ p ∷ []) at ∙ sym (take_more parts k d c.loop-part-test.true))
