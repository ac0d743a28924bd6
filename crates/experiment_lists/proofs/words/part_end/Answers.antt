use Rattle.std.proofs.Common.{get_or, refl, sym, ◌∙◌, ap, Some}
use Rattle.experiment_lists.proofs.Quotes.{scan_more}
use Rattle.experiment_lists.proofs.words.part_end.Goals as goal

pub loop-i-preserved : goal.loop-i-preserved
loop-i-preserved c =
    let more = scan_more c.args.text.now c.loop-i.i (get_or c.args.text.now c.loop-i.i 0) c.loop-i.outside c.loop-i-test.true refl c.loop-i.invariant
    (sym c.is_end.ensures ∙ c.if-is_end.false) in
    more ∙ ap (λ o. Some o) (sym c.outside_behind-outside.ensures)
