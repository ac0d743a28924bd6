use Rattle.std.proofs.Common.{ap, ◌∙◌, arith, length, ◌≤◌}
use Rattle.prob_expr.specs.Listed.{masks_of}
use Rattle.mixed_graph.specs.Vocabulary.{union}
use Rattle.prob_expr.proofs.FreeSteps.{free_step, free_end}
use Rattle.prob_expr.proofs.freeing.+free_expr.Goals as goal

pub free_factors-loop-factor-preserved : goal.free_factors-loop-factor-preserved
free_factors-loop-factor-preserved t c =
    free_step (masks_of c.args.sets.now) c.loop-factor.free.bits c.union-free.result.bits c.deref-factor-items.result.now c.loop-factor.factor-index
    c.factor-item.result (omega arith) c.factor-item.is
    (c.union-free.ensures.mask ∙ ap (λ x. union c.loop-factor.free.bits x) c.free_expr.ensures)
    ∙ c.loop-factor.invariant

pub free_factors-returns : goal.free_factors-returns
free_factors-returns t c =
    let le : length c.deref-factor-items.result.now ≤ c.loop-factor.factor-index = omega arith in
    rw (← c.deref-factor-items.ensures.value) (free_end (masks_of c.args.sets.now)
    c.loop-factor.free.bits c.deref-factor-items.result.now c.loop-factor.factor-index le ∙ c.loop-factor.invariant)
