use Rattle.std.proofs.Common.{ℕ, Bool, List, length, refl, ap, arith}
use Rattle.json.specs.Json.{Json}
use Rattle.do_derivation.specs.Vocabulary.{step_view, steps_view}
use Rattle.do_derivation.specs.declared.steps.Step.{Step}
use Rattle.certificate_json.specs.StepSizes.{is_short, are_short}
use Rattle.certificate_json.specs.Steps.{step_json, steps_json}
use Rattle.certificate_json.proofs.Keeping.{next_written, all_written, all_short}
use Rattle.certificate_json.proofs.steps.+push.Goals as goal

abbrev told : List (List ℕ) → List Step → List Json
told names steps = steps_json names (steps_view steps)

abbrev short : List Step → Bool
short steps = are_short (steps_view steps)

pub push_steps-loop-step-preserved : goal.push_steps-loop-step-preserved
push_steps-loop-step-preserved t c =
    next_written (told c.args.names.now) (λ s. step_json c.args.names.now (step_view s)) (λ x xs. refl) short (λ s. is_short (step_view s)) (λ x xs. refl)
    c.args.steps.now.items c.loop-step.step-index c.args.object.now _ c.step-item.result c.step-item.result c.loop-step.object c.push_step.new.object
    c.deref-step-items.ensures.value c.loop-step-test.true c.step-item.is
    c.in_ok-push_step.ensures.written c.in_ok-push_step.ensures.short c.loop-step.invariant

pub push_steps-returns-clause-written : goal.push_steps-returns-clause-written
push_steps-returns-clause-written t c = all_written (told c.args.names.now) short c.args.steps.now.items c.loop-step.step-index c.args.object.now
    c.loop-step.object refl (let e = ap length c.deref-step-items.ensures.value in omega arith) c.loop-step.invariant

pub push_steps-returns-clause-short : goal.push_steps-returns-clause-short
push_steps-returns-clause-short t c = all_short (told c.args.names.now) short c.args.steps.now.items c.loop-step.step-index c.args.object.now
    c.loop-step.object refl (let e = ap length c.deref-step-items.ensures.value in omega arith) c.loop-step.invariant
