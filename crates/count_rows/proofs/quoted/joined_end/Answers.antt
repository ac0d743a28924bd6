use Rattle.std.proofs.Common.{◌≡◌, ◌∙◌, ◌-◌, true, [], ◌∷◌, refl, sym, take, drop, get_or}
use Rattle.std.proofs.lemmas.List.Folds.{list_all-append}
use Rattle.count_rows.specs.Quoted.{joins}
use Rattle.count_rows.proofs.FieldLists.{part-more}
use Rattle.count_rows.proofs.quoted.joined_end.Goals as goal

pub loop-at-preserved : goal.loop-at-preserved
loop-at-preserved c =
    let text = c.args.text.now in
    let b = get_or text c.loop-at.at 0 in
    let here : joins c.args.place b ≡ true = sym c.joins.ensures ∙ c.if-not-joins.false in
    rw (part-more text c.args.from c.loop-at.at c.loop-at.auto.at c.loop-at-test.true)
    (list_all-append (joins c.args.place) (take (c.loop-at.at - c.args.from) (drop c.args.from text)) (b ∷ [])
    ∙ rw (c.loop-at.invariant, here) refl)
