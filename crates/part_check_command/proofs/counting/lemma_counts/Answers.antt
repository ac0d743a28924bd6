use Rattle.std.proofs.Common.{◌++◌, ◌∷◌, [], sym, ap₂, ◌∙◌}
use Rattle.part_check_command.proofs.LemmaCounts.{counts_more}
use Rattle.part_check_command.proofs.counting.lemma_counts.Goals as goal

pub loop-part-preserved : goal.loop-part-preserved
loop-part-preserved c =
    c.in_ok-push.ensures.items ∙ ap₂ (λ l n. l ++ n ∷ []) c.loop-part.invariant c.lemmas_of.ensures
    ∙ sym (counts_more c.deref-part-items.result.now c.loop-part.part-index c.part-item.result c.loop-part-test.true c.part-item.is)
