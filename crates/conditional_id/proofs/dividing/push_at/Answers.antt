use Rattle.std.proofs.Common.{ap, ◌∙◌}
use Rattle.do_derivation.specs.Plans.{Plan, plan}
use Rattle.do_derivation.specs.declared.steps.Step.{At}
use Rattle.do_derivation.specs.Vocabulary.{step_view}
use Rattle.identify.specs.Vocabulary.{onto}
use Rattle.identify.proofs.Steps.{onto_more, step-At}
use Rattle.conditional_id.proofs.dividing.push_at.Goals as goal

pub returns : goal.returns
returns c = λ rest.
    let old = c.args.out.now.items in
    ap (λ l. onto l rest) c.in_ok-push.ensures.items ∙ onto_more old (At c.args.i c.in_ok-inner.inner) rest
    ∙ ap (λ p. onto old (plan p rest)) (step-At c.args.i c.in_ok-inner.inner ∙ ap (λ s. Plan.At c.args.i (step_view s)) c.in_ok-inner.ensures.ok)
