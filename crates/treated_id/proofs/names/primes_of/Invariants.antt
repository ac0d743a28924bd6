use Rattle.treated_id.proofs.NameSets.{Priming}
use Rattle.treated_id.proofs.names.primes_of.Given as goal

abbrev pub invariant-each : goal.invariant-each
invariant-each l = Priming l.n l.x.bits l.fn.set.bits l.v-iterator l.all.bits
