use Rattle.primed_names.proofs.Places.{primed_stand_behind}
use Rattle.primed_names.proofs.theory.laws.Goals as goal

pub returns : goal.returns
returns c = record { places = primed_stand_behind }
