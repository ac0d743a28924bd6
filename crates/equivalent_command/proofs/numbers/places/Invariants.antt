use Rattle.equivalent_command.proofs.Placing.{ArePlaces}
use Rattle.equivalent_command.proofs.numbers.places.Given as goal

abbrev pub invariant-loop-v : goal.invariant-loop-v
invariant-loop-v l = ArePlaces l.names l.others l.v l.out
