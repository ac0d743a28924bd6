use Rattle.command_words.proofs.requests.words_found.Goals as goal

pub returns-in-Ok-Some-clause-call : goal.returns-in-Ok-Some-clause-call
returns-in-Ok-Some-clause-call c = rw c.in-Ok-Some.field-0-is at c.in-Ok-Some.ensures.call

pub returns-in-Ok-Some-clause-only : goal.returns-in-Ok-Some-clause-only
returns-in-Ok-Some-clause-only c = rw c.in-Ok-Some.field-0-is at c.in-Ok-Some.ensures.only

pub returns-in-Ok-Some-clause-values : goal.returns-in-Ok-Some-clause-values
returns-in-Ok-Some-clause-values c = rw c.in-Ok-Some.field-0-is at c.in-Ok-Some.ensures.values

pub returns-in-Ok-None-clause-none : goal.returns-in-Ok-None-clause-none
returns-in-Ok-None-clause-none c = λ e. rw c.in-Ok-None.field-0-is at c.in-Ok-None.ensures.none
