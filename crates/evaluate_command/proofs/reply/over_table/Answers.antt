use Rattle.std.proofs.Common.{refl}
use Rattle.evaluate_command.proofs.reply.over_table.Goals as goal

pub returns-in_ok-broken-in-Ok-clause-answer : goal.returns-in_ok-broken-in-Ok-clause-answer
returns-in_ok-broken-in-Ok-clause-answer c = record {
  target = refl;
  pinned = c.in_ok-pinned.ensures;
  table = refl;
  values = c.in-Ok.ensures.values;
  broken = c.in_ok-broken-in-Ok.ensures;
}

pub returns-in-Err-clause-fault : goal.returns-in-Err-clause-fault
returns-in-Err-clause-fault c = λ kept. record { named = refl; table = refl; counts = c.used-used.ensures.table; value = c.in-Err.ensures.fault kept }
