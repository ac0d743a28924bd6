use Rattle.surrogates.proofs.Rooms.{zero_apart}
use Rattle.surrogates.specs.Surrogates.{ComesFirst}
use Rattle.surrogates.proofs.tries.first_factor.Goals as goal

pub factor_without-requires-clause-apart : goal.factor_without-requires-clause-apart
factor_without-requires-clause-apart c = zero_apart c.args.c.bits

pub returns-in-Ok-clause-tried : goal.returns-in-Ok-clause-tried
returns-in-Ok-clause-tried c = record { z = 0; first = ComesFirst.here (zero_apart c.args.c.bits); tried = c.in-Ok.ensures.tried }

pub after_stop-requires-clause-stopped : goal.after_stop-requires-clause-stopped
after_stop-requires-clause-stopped c = rw c.in-Err-Stopped.field-0-is at c.in-Err-Stopped.ensures.fault
