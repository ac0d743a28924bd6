use Rattle.std.proofs.Common.{◌≡◌, ◌++◌, ◌∷◌, ◌+◌, ℕ, List, true, drop, get_or, sym, ap, ◌∙◌, append_assoc}
use Rattle.std.proofs.lemmas.List.{drop_more}
use Rattle.natural_id.specs.declared.answers.Part.{Part}
use Rattle.natural_command.specs.Sentences.{part_in, parts_in, times_before}
use Rattle.natural_command.proofs.texts.push_parts.Goals as goal

pub loop-part-preserved : goal.loop-part-preserved
loop-part-preserved c =
    let names = c.args.names.now in let x = c.args.x.bits in
    let items : List Part = c.deref-part-items.result.now in
    let k : ℕ = c.loop-part.part-index in
    let d : Part = c.part-item.result in
    let at : d ≡ get_or items k d = c.part-item.is in
    let times = times_before c.args.notation c.loop-part.later in
    let part = part_in c.args.notation names x d in
    let rest = parts_in c.args.notation true names x (drop (k + 1) items) in
    ap (λ t. t ++ rest) (c.in_ok-push_part.ensures ∙ ap (λ t. t ++ part) (c.in_ok-extend_from_slice.ensures.items
    ∙ ap (λ t. c.loop-part.out.items ++ t) c.times_before.ensures))
    ∙ append_assoc (c.loop-part.out.items ++ times) part rest ∙ append_assoc c.loop-part.out.items times (part ++ rest)
    ∙ ap (λ (l : List Part). c.loop-part.out.items ++ parts_in c.args.notation c.loop-part.later names x l)
    (ap (λ (p : Part). p ∷ drop (k + 1) items) at ∙ sym (drop_more items k d c.loop-part-test.true))
    ∙ c.loop-part.invariant
