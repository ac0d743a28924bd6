use Rattle.std.proofs.Common.{◌≡◌}
use Rattle.primed_names.specs.Primed.{with_primes, primed_names}
use Rattle.primed_names.proofs.primes.primed_names.Given as goal

abbrev pub invariant-each : goal.invariant-each
invariant-each l = with_primes l.names l.all l.v-iterator ≡ primed_names l.names l.fn.x.bits
