use Rattle.natural_command.proofs.reply.decide.Goals as goal

pub identified-requires-clause-asked : goal.identified-requires-clause-asked
identified-requires-clause-asked c = c.in_ok-asked.ensures.asked.asked

pub identified-requires-clause-before : goal.identified-requires-clause-before
identified-requires-clause-before c = c.in_ok-asked.ensures.asked.before

pub returns-in-Ok-clause-answer : goal.returns-in-Ok-clause-answer
returns-in-Ok-clause-answer c =
    let may = c.in_ok-asked.ensures.asked in record { before = may.before; few = may.few; decided = c.in-Ok.ensures }
