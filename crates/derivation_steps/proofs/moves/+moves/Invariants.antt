use Rattle.std.proofs.Common.{◌≡◌, ◌++◌, map, drop}
use Rattle.do_derivation.specs.Vocabulary.{step_view, steps_view}
use Rattle.derivation_steps.specs.Moves.{moves_of_each}
use Rattle.derivation_steps.proofs.moves.+moves.Given as goal

abbrev pub invariant-moves_of_all-loop-i : goal.invariant-moves_of_all-loop-i
invariant-moves_of_all-loop-i l = map step_view l.all.items ++ moves_of_each (steps_view (drop l.i l.steps)) ≡ moves_of_each (steps_view l.steps)
