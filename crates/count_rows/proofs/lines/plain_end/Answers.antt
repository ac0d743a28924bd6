use Rattle.std.proofs.Common.{◌≡◌, ◌∙◌, ◌-◌, true, [], ◌∷◌, refl, sym, take, drop, get_or}
use Rattle.std.proofs.lemmas.List.Folds.{list_all-append}
use Rattle.count_rows.specs.Reader.{is_plain}
use Rattle.count_rows.proofs.FieldLists.{part-more}
use Rattle.count_rows.proofs.lines.plain_end.Goals as goal

pub loop-at-preserved : goal.loop-at-preserved
loop-at-preserved c =
    let text = c.args.text.now in
    let b = get_or text c.loop-at.at 0 in
    let here : is_plain b ≡ true = sym c.is_plain.ensures ∙ c.if-not-is_plain.false in
    rw (part-more text c.args.from c.loop-at.at c.loop-at.auto.at c.loop-at-test.true)
    (list_all-append is_plain (take (c.loop-at.at - c.args.from) (drop c.args.from text)) (b ∷ [])
    ∙ rw (c.loop-at.invariant, here) refl)
