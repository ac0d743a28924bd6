use Rattle.std.proofs.Common.{◌≡◌, true, false, cond, [], ◌∷◌, ◌++◌, sym, ap, ◌∙◌, arith}
use Rattle.do_derivation.specs.Plans.{Move, Plan}
use Rattle.do_derivation.specs.declared.steps.Step.{Make}
use Rattle.do_derivation.specs.declared.moves.Move.TheVariants.{Bare}
use Rattle.do_derivation.specs.Vocabulary.{no_plans, listed, steps_view}
use Rattle.do_derivation.proofs.StepViews.{step-Make}
use Rattle.do_derivation.specs.declared.moves.BareMove.TheVariants as bare_move
use Rattle.identification_theory.specs.Vocabulary.{single, in_order, two_or_more}
use Rattle.identify.proofs.StepLists.{unchain_is}
use Rattle.identify.proofs.groups.unchain_list.Goals as goal

pub returns-then-not-is_pair : goal.returns-then-not-is_pair
returns-then-not-is_pair c =
    let l = in_order c.args.t.bits (listed c.args.chain.now) in
    let o : two_or_more l ≡ false = sym c.is_pair.ensures ∙ grind (arith, c.if-not-is_pair.true) in
    ap steps_view c.new-out.ensures.items ∙ sym (unchain_is l ∙ ap (λ b. cond b (single (Plan.Make (Move.Bare bare_move.Unchain))) no_plans) o)

pub returns : goal.returns
returns c =
    let l = in_order c.args.t.bits (listed c.args.chain.now) in
    let o : two_or_more l ≡ true = sym c.is_pair.ensures ∙ grind (arith, c.if-not-is_pair.false) in
    ap steps_view c.in_ok-push.ensures.items ∙ ap (λ old. steps_view (old ++ (Make (Bare bare_move.Unchain)) ∷ [])) c.new-out.ensures.items ∙ ap single (step-Make (Bare bare_move.Unchain))
    ∙ sym (unchain_is l ∙ ap (λ b. cond b (single (Plan.Make (Move.Bare bare_move.Unchain))) no_plans) o)
