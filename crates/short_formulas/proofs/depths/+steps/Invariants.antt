use Rattle.std.proofs.Common.{◌≡◌, drop}
use Rattle.do_derivation.specs.Vocabulary.{steps_view}
use Rattle.identification_theory.specs.Vocabulary.{are_plans_within}
use Rattle.short_formulas.proofs.depths.+steps.Given as goal

abbrev pub invariant-are_steps_within-loop-step : goal.invariant-are_steps_within-loop-step
invariant-are_steps_within-loop-step l = are_plans_within l.d (steps_view (drop l.step-index l.step-items)) ≡ are_plans_within l.d (steps_view l.step-items)
