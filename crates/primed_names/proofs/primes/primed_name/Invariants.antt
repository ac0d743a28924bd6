use Rattle.std.proofs.Common.{◌≡◌, ◌-◌}
use Rattle.primed_names.specs.Primed.{primed_from, primed_name}
use Rattle.primed_names.proofs.primes.primed_name.Given as goal

abbrev pub invariant-loop : goal.invariant-loop
invariant-loop l = primed_from (l.tries - l.counter) l.taken l.text.items ≡ primed_name l.taken l.name
