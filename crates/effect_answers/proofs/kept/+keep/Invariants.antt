use Rattle.std.proofs.Common.{◌≡◌, drop}
use Rattle.do_derivation.specs.Vocabulary.{steps_view}
use Rattle.certificate_json.specs.Vocabulary.{are_short}
use Rattle.effect_answers.proofs.kept.+keep.Given as goal

abbrev pub invariant-steps_kept-loop-step : goal.invariant-steps_kept-loop-step
invariant-steps_kept-loop-step l = are_short (steps_view (drop l.step-index l.steps.items)) ≡ are_short (steps_view l.steps.items)
