use Rattle.treated_command.proofs.reply.decide.Goals as goal

pub identified-requires-clause-asked : goal.identified-requires-clause-asked
identified-requires-clause-asked c = c.in_ok-primes.ensures.primes.asked

pub identified-requires-clause-before : goal.identified-requires-clause-before
identified-requires-clause-before c = c.in_ok-primes.ensures.primes.before

pub identified-requires-clause-few : goal.identified-requires-clause-few
identified-requires-clause-few c = c.in_ok-primes.ensures.primes.few

pub returns-in-Ok-clause-answer : goal.returns-in-Ok-clause-answer
returns-in-Ok-clause-answer c =
    let may = c.in_ok-primes.ensures.primes in record { before = may.before; few = may.few; decided = c.in-Ok.ensures }
