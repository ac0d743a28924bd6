use Rattle.std.proofs.Common.{sym, ap, ap₂, ◌∙◌}
use Rattle.do_derivation.specs.Plans.{plan}
use Rattle.do_derivation.specs.declared.moves.Move.TheVariants.{WithSet}
use Rattle.do_derivation.specs.Vocabulary.{no_plans, steps_view}
use Rattle.identify.specs.Lists.{onto}
use Rattle.do_derivation.proofs.StepViews.{step-Make}
use Rattle.do_derivation.specs.declared.moves.SetMove.TheVariants as set_move
use Rattle.identify.proofs.Steps.{onto_nothing}
use Rattle.identification_theory.specs.Vocabulary.{at_place}
use Rattle.identify.proofs.factors.moves.cut_steps.Goals as goal

pub returns : goal.returns
returns c = sym (onto_nothing c.push_at.new.out.items) ∙ c.in_ok-push_at.ensures no_plans
    ∙ ap (λ l. onto l (at_place 0 (steps_view c.args.inner.items) no_plans)) c.in_ok-steps.ensures.items
    ∙ ap₂ (λ p q. plan p (plan q (at_place 0 (steps_view c.args.inner.items) no_plans))) (step-Make (WithSet set_move.Rule3Out c.args.over)) (step-Make (WithSet set_move.Widen c.args.over))
