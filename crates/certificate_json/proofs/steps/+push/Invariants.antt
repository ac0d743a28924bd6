use Rattle.std.proofs.Common.{List}
use Rattle.do_derivation.specs.Vocabulary.{steps_view}
use Rattle.do_derivation.specs.declared.steps.Step.{Step}
use Rattle.certificate_json.specs.StepSizes.{are_short}
use Rattle.certificate_json.specs.Steps.{steps_json}
use Rattle.certificate_json.proofs.Keeping.{IsOnTheWay}
use Rattle.certificate_json.proofs.steps.+push.Given as goal

abbrev pub invariant-push_steps-loop-step : goal.invariant-push_steps-loop-step
invariant-push_steps-loop-step l = IsOnTheWay (λ (steps : List Step). steps_json l.names (steps_view steps)) (λ steps. are_short (steps_view steps))
    l.steps.items l.step-index l.fn.object l.object
