use Rattle.std.proofs.Common.{Bool, List, length, refl, ap, arith}
use Rattle.do_derivation.specs.Vocabulary.{step_view, steps_view}
use Rattle.do_derivation.specs.declared.steps.Step.{Step}
use Rattle.certificate_json.specs.Vocabulary.{is_short, are_short}
use Rattle.effect_answers.proofs.Keeping.{next_kept, all_kept}
use Rattle.effect_answers.proofs.kept.+keep.Goals as goal

abbrev short : List Step → Bool
short steps = are_short (steps_view steps)

pub steps_kept-loop-step-preserved : goal.steps_kept-loop-step-preserved
steps_kept-loop-step-preserved t c =
    next_kept short (λ s. is_short (step_view s)) (λ x xs. refl) c.args.steps.now.items _ c.loop-step.step-index c.step-item.result
    c.deref-step-items.ensures.value c.loop-step-test.true c.step-item.is
    c.step_kept.ensures c.loop-step.invariant

pub steps_kept-returns : goal.steps_kept-returns
steps_kept-returns t c = all_kept short refl c.args.steps.now.items c.loop-step.step-index (let e = ap length c.deref-step-items.ensures.value in omega arith)
    c.loop-step.invariant
