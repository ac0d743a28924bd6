use Rattle.std.proofs.Common.{refl}
use Rattle.bounds_command.proofs.first.by_set.Goals as goal

pub returns-in-Ok : goal.returns-in-Ok
returns-in-Ok c = λ l sets. record {
  named = record { sets = sets; no_condition = refl; no_instrument = refl; method = refl };
  admissible = c.in-Ok.ensures.admissible;
}

pub returns-in-Err : goal.returns-in-Err
returns-in-Err c = λ l sets. (sets, c.in-Err.ensures.fault)
