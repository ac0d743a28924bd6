use Rattle.std.proofs.Common.{◌∙◌, ◌<◌, length, arith, ap, List, ℕ, [], subst, ◌*◌, ◌^◌}
use Rattle.std.proofs.lemmas.List.{get_or_default}
use Rattle.count_rows.proofs.TallySteps.{too_many}
use Rattle.count_rows.proofs.tally.is_too_large.Goals as goal

pub returns-then-cells-gt-MOST_CELLS : goal.returns-then-cells-gt-MOST_CELLS
returns-then-cells-gt-MOST_CELLS c =
    too_many c.args.levels.now c.loop-level.level-index c.loop-level.cells (omega arith) (λ k h. c.requires k [] h) c.loop-level.invariant.whole
    (subst (λ n. 2 ^ 20 < c.loop-level.cells * n) (c.from-cells.ensures ∙ c.count.ensures.count
    ∙ ap (λ (l : List (List ℕ)). length l) (c.level-item.is ∙ get_or_default c.args.levels.now c.loop-level.level-index c.level-item.result []
    (omega arith))) c.if-cells-gt-MOST_CELLS.true)
