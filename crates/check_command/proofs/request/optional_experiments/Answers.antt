use Rattle.std.proofs.Common.{ap, map, sym, subst}
use Rattle.command_words.specs.Vocabulary.{names_in}
use Rattle.experiment_lists.specs.Vocabulary.{lists_in, AreOptionalExperiments}
use Rattle.check_command.proofs.request.optional_experiments.Goals as goal

pub returns-in-None-clause-ok : goal.returns-in-None-clause-ok
returns-in-None-clause-ok c = λ row uses g known.
    subst (λ o. AreOptionalExperiments o (lists_in c.new.result)) (c.in-None.ensures row uses g known) (ap (map names_in) c.new.ensures.items)

pub returns-in-Ok-Some-clause-ok : goal.returns-in-Ok-Some-clause-ok
returns-in-Ok-Some-clause-ok c = λ row uses g known.
    let some = rw c.in-Ok-Some.field-0-is at c.in-Ok-Some.ensures.some in
    subst (λ o. AreOptionalExperiments o (lists_in c.in-Ok-Some.experiments)) (c.in-Some.ensures row uses g known) some

pub returns-in-Ok-None-clause-none : goal.returns-in-Ok-None-clause-none
returns-in-Ok-None-clause-none c = λ row uses g known e lists h.
    let none = rw c.in-Ok-None.field-0-is at c.in-Ok-None.ensures.none in
    none lists (subst (λ o. AreOptionalExperiments o lists) (sym (c.in-Some.ensures row uses g known)) h)
