use Rattle.std.proofs.Common.{◌∙◌, ◌≤◌, length, arith, sym}
use Rattle.short_formulas.proofs.Counting.{count_step_all, count_end_all, is_few}
use Rattle.short_formulas.proofs.measuring.count_defs.Goals as goal

pub loop-def-preserved : goal.loop-def-preserved
loop-def-preserved c = record {
  few = is_few c.count_expr-count.result _ c.count_expr-count.ensures;
  counts = count_step_all c.loop-def.count c.count_expr-count.result c.deref-def-items.result.now c.loop-def.def-index c.def-item.result
      (omega arith) c.def-item.is c.count_expr-count.ensures
      ∙ c.loop-def.invariant.counts;
}

pub returns : goal.returns
returns c =
    let le : length c.deref-def-items.result.now ≤ c.loop-def.def-index = omega arith in
    rw (← c.deref-def-items.ensures.value) (sym (count_end_all c.loop-def.count c.deref-def-items.result.now c.loop-def.def-index
    c.loop-def.invariant.few le) ∙ c.loop-def.invariant.counts)
