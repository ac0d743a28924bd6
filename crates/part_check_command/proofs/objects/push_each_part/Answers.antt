use Rattle.std.proofs.Common.{◌≡◌, ℕ, ◌+◌, ◌<◌, List, length, drop, get_or, map, sym, ap, subst, ◌∙◌}
use Rattle.std.proofs.lemmas.List.{drop_more}
use Rattle.json.specs.Json.{Json}
use Rattle.answer_json.specs.Vocabulary.{with_value, with_values}
use Rattle.natural_id.specs.declared.answers.Part.{Part}
use Rattle.part_check_command.specs.Objects.{part_json}
use Rattle.part_check_command.proofs.objects.push_each_part.Goals as goal

pub loop-part-preserved : goal.loop-part-preserved
loop-part-preserved c =
    let f : Part → Json = part_json c.args.names.now in
    let items : List Part = c.args.parts.now.items in
    let k : ℕ = c.loop-part.part-index in
    let d : Part = c.part-item.result in
    let same : c.deref-part-items.result.now ≡ items = c.deref-part-items.ensures.value in
    let at : d ≡ get_or items k d = c.part-item.is ∙ ap (λ (l : List Part). get_or l k d) same in
    let lt : k < length items = subst (λ (l : List Part). k < length l) same c.loop-part-test.true in
    ap (with_values (map f (drop (k + 1) items))) (c.in_ok-push_part.ensures ∙ ap (λ (p : Part). with_value (f p) c.loop-part.object) at)
    ∙ sym (ap (λ (l : List Part). with_values (map f l) c.loop-part.object) (drop_more items k d lt))
    ∙ c.loop-part.invariant
