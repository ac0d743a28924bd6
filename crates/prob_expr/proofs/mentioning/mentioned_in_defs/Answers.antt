use Rattle.std.proofs.Common.{ap, ◌∙◌, arith, length, ◌≤◌}
use Rattle.mixed_graph.specs.Vocabulary.{union}
use Rattle.prob_expr.proofs.Mentions.{defs_step, defs_end}
use Rattle.prob_expr.proofs.mentioning.mentioned_in_defs.Goals as goal

pub loop-def-preserved : goal.loop-def-preserved
loop-def-preserved c =
    defs_step c.loop-def.all.bits c.union-all.result.bits c.deref-def-items.result.now c.loop-def.def-index c.def-item.result (omega arith) c.def-item.is
    (c.union-all.ensures.mask ∙ ap (λ x. union c.loop-def.all.bits x) c.mentioned_in.ensures)
    ∙ c.loop-def.invariant

pub returns : goal.returns
returns c =
    let le : length c.deref-def-items.result.now ≤ c.loop-def.def-index = omega arith in
    rw (← c.deref-def-items.ensures.value) (defs_end c.loop-def.all.bits c.deref-def-items.result.now c.loop-def.def-index le ∙ c.loop-def.invariant)
