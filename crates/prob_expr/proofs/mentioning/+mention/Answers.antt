use Rattle.std.proofs.Common.{ap, ◌∙◌, arith, length, ◌≤◌}
use Rattle.mixed_graph.specs.Vocabulary.{union}
use Rattle.prob_expr.proofs.Mentions.{factors_step, factors_end}
use Rattle.prob_expr.proofs.mentioning.+mention.Goals as goal

pub mentioned_in_factors-loop-factor-preserved : goal.mentioned_in_factors-loop-factor-preserved
mentioned_in_factors-loop-factor-preserved t c =
    factors_step c.loop-factor.all.bits c.union-all.result.bits c.deref-factor-items.result.now c.loop-factor.factor-index c.factor-item.result (omega arith)
    c.factor-item.is
    (c.union-all.ensures.mask ∙ ap (λ x. union c.loop-factor.all.bits x) c.mentioned_in.ensures)
    ∙ c.loop-factor.invariant

pub mentioned_in_factors-returns : goal.mentioned_in_factors-returns
mentioned_in_factors-returns t c =
    let le : length c.deref-factor-items.result.now ≤ c.loop-factor.factor-index = omega arith in
    rw (← c.deref-factor-items.ensures.value) (factors_end c.loop-factor.all.bits c.deref-factor-items.result.now c.loop-factor.factor-index le
    ∙ c.loop-factor.invariant)
