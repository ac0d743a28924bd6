use Rattle.natural_command.proofs.Places.{IsReading}
use Rattle.natural_command.proofs.second.names_read.Given as goal

abbrev pub invariant-each : goal.invariant-each
invariant-each l = IsReading l.names l.fn.x.bits l.fn.second.bits l.v-iterator l.read
