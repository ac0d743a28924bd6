use Rattle.std.proofs.Common.{◌-◌, ap, ◌∙◌, arith}
use Rattle.do_derivation.specs.Vocabulary.{step_view, steps_view}
use Rattle.identify.proofs.Steps.{step-At, step-Then}
use Rattle.identification_theory.specs.Vocabulary.{is_plan_within}
use Rattle.short_formulas.proofs.Levels.{within_at, within_then}
use Rattle.short_formulas.proofs.depths.+steps.Goals as goal

pub is_step_within-returns-in-At : goal.is_step_within-returns-in-At
is_step_within-returns-in-At t c =
    within_at c.args.d (c.args.d - 1) c.in-At.field-0 (step_view c.in-At.inner.value) (step_view c.args.step.now) c.is_step_within.result (omega arith)
    (ap step_view c.in-At.is ∙ step-At c.in-At.field-0 c.in-At.inner)
    (c.is_step_within.ensures ∙ ap (λ s. is_plan_within (c.args.d - 1) (step_view s)) c.deref.ensures)

pub is_step_within-returns-in-Then : goal.is_step_within-returns-in-Then
is_step_within-returns-in-Then t c =
    within_then c.args.d (c.args.d - 1) (steps_view c.in-Then.steps.items) (step_view c.args.step.now) c.are_steps_within.result (omega arith)
    (ap step_view c.in-Then.is ∙ step-Then c.in-Then.steps)
    c.are_steps_within.ensures
