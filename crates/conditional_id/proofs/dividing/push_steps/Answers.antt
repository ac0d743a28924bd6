use Rattle.std.proofs.Common.{sym, ap, ◌∙◌}
use Rattle.do_derivation.specs.Vocabulary.{step_view, steps_view}
use Rattle.identify.specs.Vocabulary.{onto}
use Rattle.conditional_id.specs.Conditionals.{steps_of}
use Rattle.conditional_id.proofs.Lists.{alone_steps, list_steps}
use Rattle.conditional_id.proofs.StepCases.{alone_from}
use Rattle.conditional_id.proofs.dividing.push_steps.Goals as goal

pub returns-in_ok-append-in-Then : goal.returns-in_ok-append-in-Then
returns-in_ok-append-in-Then c =
    let out = c.args.out.now.items in
    ap steps_view c.in_ok-append-in-Then.ensures.items ∙ (list_steps out c.in-Then.list ∙ sym (ap (λ s. onto out (steps_of (step_view s))) c.in-Then.is))

pub returns-in_ok-push-in_default : goal.returns-in_ok-push-in_default
returns-in_ok-push-in_default c =
    let out = c.args.out.now.items in
    ap steps_view c.in_ok-push-in_default.ensures.items ∙ alone_steps out c.args.step (alone_from c.args.step c.in_default.not-Then)
