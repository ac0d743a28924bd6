use Rattle.std.proofs.Common.{◌∙◌, ◌≤◌, length, arith, sym}
use Rattle.short_formulas.proofs.Counting.{count_step, count_end, is_few}
use Rattle.short_formulas.proofs.measuring.+count.Goals as goal

pub count_factors-loop-factor-preserved : goal.count_factors-loop-factor-preserved
count_factors-loop-factor-preserved t c = record {
  few = is_few c.count_expr-count.result _ c.count_expr-count.ensures;
  counts = count_step c.loop-factor.count c.count_expr-count.result c.deref-factor-items.result.now c.loop-factor.factor-index c.factor-item.result
      (omega arith) c.factor-item.is c.count_expr-count.ensures
      ∙ c.loop-factor.invariant.counts;
}

pub count_factors-returns : goal.count_factors-returns
count_factors-returns t c =
    let le : length c.deref-factor-items.result.now ≤ c.loop-factor.factor-index = omega arith in
    rw (← c.deref-factor-items.ensures.value) (sym (count_end c.loop-factor.count c.deref-factor-items.result.now c.loop-factor.factor-index
    c.loop-factor.invariant.few le) ∙ c.loop-factor.invariant.counts)
