use Rattle.std.proofs.Common.{sym, subst}
use Rattle.experiment_lists.specs.Vocabulary.{AreNeededExperiments, lists_in}
use Rattle.experiment_lists.proofs.Joining.{are_filled}
use Rattle.surrogate_command.proofs.request.needed_experiments.Goals as goal

pub returns-in-None-clause-none : goal.returns-in-None-clause-none
returns-in-None-clause-none c = λ row uses g known e lists h. subst (λ o. AreNeededExperiments o lists) (sym (c.in-None.ensures row uses g known)) h

pub returns-in-Ok-Some-clause-ok : goal.returns-in-Ok-Some-clause-ok
returns-in-Ok-Some-clause-ok c = λ row uses g known.
    let some = rw c.in-Ok-Some.field-0-is at c.in-Ok-Some.ensures.some in
    subst (λ o. AreNeededExperiments o (lists_in c.in-Ok-Some.experiments)) (c.in-Some.ensures row uses g known) some

pub returns-in-Ok-Some-clause-filled : goal.returns-in-Ok-Some-clause-filled
returns-in-Ok-Some-clause-filled c =
    let some = rw c.in-Ok-Some.field-0-is at c.in-Ok-Some.ensures.some in
    are_filled c.in-Some.text.now (lists_in c.in-Ok-Some.experiments) some

pub returns-in-Ok-None-clause-none : goal.returns-in-Ok-None-clause-none
returns-in-Ok-None-clause-none c = λ row uses g known e lists h.
    let none = rw c.in-Ok-None.field-0-is at c.in-Ok-None.ensures.none in
    none lists (subst (λ o. AreNeededExperiments o lists) (sym (c.in-Some.ensures row uses g known)) h)
