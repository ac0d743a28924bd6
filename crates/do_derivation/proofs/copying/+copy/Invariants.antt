use Rattle.std.proofs.Common.{◌≡◌, take, map}
use Rattle.do_derivation.specs.View.{step_view}
use Rattle.do_derivation.proofs.copying.+copy.Given as goal

abbrev pub invariant-copy_steps-loop-step : goal.invariant-copy_steps-loop-step
invariant-copy_steps-loop-step l = map step_view l.copies.items ≡ map step_view (take l.step-index l.steps.items)
