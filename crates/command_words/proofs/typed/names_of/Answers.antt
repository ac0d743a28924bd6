use Rattle.command_words.proofs.typed.names_of.Goals as goal

pub returns-in-Ok-Some-clause-ok : goal.returns-in-Ok-Some-clause-ok
returns-in-Ok-Some-clause-ok c = rw c.in-Ok-Some.field-0-is at c.in-Ok-Some.ensures.list

pub returns-in-Ok-None-clause-none : goal.returns-in-Ok-None-clause-none
returns-in-Ok-None-clause-none c = λ e. rw c.in-Ok-None.field-0-is at c.in-Ok-None.ensures.none
