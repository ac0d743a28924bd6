use Rattle.std.proofs.Common.{sym, ap, ◌∙◌}
use Rattle.do_derivation.specs.Plans.{Plan, plan}
use Rattle.do_derivation.specs.declared.steps.Step.{Make, Then}
use Rattle.do_derivation.specs.declared.moves.Move.TheVariants.{Bare}
use Rattle.do_derivation.specs.Vocabulary.{no_plans, step_view}
use Rattle.do_derivation.specs.declared.moves.BareMove.TheVariants as bare_move
use Rattle.identification_theory.specs.Vocabulary.{single}
use Rattle.identify.specs.Vocabulary.{onto}
use Rattle.identify.proofs.Steps.{onto_more, onto_nothing}
use Rattle.conditional_id.specs.Conditionals.{summed_steps}
use Rattle.conditional_id.proofs.Lists.{parted, whole_steps}
use Rattle.conditional_id.proofs.dividing.divided_steps.Goals as goal

pub returns-then-is_empty : goal.returns-then-is_empty
returns-then-is_empty c = c.in_ok-push_steps.ensures ∙ whole_steps c.args.y.bits c.args.left.bits c.args.moves.items (step_view c.args.joint)
    (sym c.is_empty.ensures.mask ∙ c.if-is_empty.true)

pub returns : goal.returns
returns c =
    let p = step_view c.args.joint in
    let out = c.args.moves.items in
    let below = c.in_ok-below.below in
    let last = single (Plan.At 1 (step_view (Then below))) in
    sym (onto_nothing c.push_at-2.new.out.items) ∙ c.in_ok-push_at-2.ensures no_plans
    ∙ c.in_ok-push_at.ensures last
    ∙ ap (λ l. onto l (plan (Plan.At 0 p) last)) c.in_ok-push.ensures.items ∙ onto_more out (Make (Bare bare_move.Split)) (plan (Plan.At 0 p) last)
    ∙ parted c.args.y.bits c.args.left.bits out below p (sym c.is_empty.ensures.mask ∙ c.if-is_empty.false)
    (c.in_ok-below.ensures ∙ ap (λ q. summed_steps c.args.y.bits q) c.in_ok-again.ensures)
