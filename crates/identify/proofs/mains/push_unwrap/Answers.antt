use Rattle.std.proofs.Common.{◌≡◌, true, false, cond, sym, ap, ◌∙◌, arith}
use Rattle.do_derivation.specs.Plans.{Move, Plan, plan}
use Rattle.do_derivation.specs.declared.steps.Step.{Make}
use Rattle.do_derivation.specs.declared.moves.Move.TheVariants.{Bare}
use Rattle.do_derivation.specs.Vocabulary.{no_plans}
use Rattle.do_derivation.proofs.StepViews.{step-Make}
use Rattle.do_derivation.specs.declared.moves.BareMove.TheVariants as bare_move
use Rattle.identification_theory.specs.Vocabulary.{single}
use Rattle.identify.specs.Lists.{onto}
use Rattle.identify.proofs.Steps.{onto_more, onto_nothing}
use Rattle.identify.proofs.mains.push_unwrap.Goals as goal

pub returns-then-not-opens : goal.returns-then-not-opens
returns-then-not-opens c = λ fs h.
    let o : c.args.opens ≡ false = grind (arith, c.if-not-opens.true) in
    sym (onto_nothing c.args.out.now.items) ∙ ap (λ b. onto c.args.out.now.items (cond b (single (Plan.Make (Move.Bare bare_move.Unwrap))) no_plans)) (sym (h ∙ o))

pub returns : goal.returns
returns c = λ fs h.
    let o : c.args.opens ≡ true = grind (arith, c.if-not-opens.false) in
    sym (onto_nothing c.push.new.self.items) ∙ ap (λ l. onto l no_plans) c.in_ok-push.ensures.items ∙ onto_more c.args.out.now.items (Make (Bare bare_move.Unwrap)) no_plans
    ∙ ap (λ p. onto c.args.out.now.items (plan p no_plans)) (step-Make (Bare bare_move.Unwrap))
    ∙ ap (λ b. onto c.args.out.now.items (cond b (single (Plan.Make (Move.Bare bare_move.Unwrap))) no_plans)) (sym (h ∙ o))
