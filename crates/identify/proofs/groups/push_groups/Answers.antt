use Rattle.std.proofs.Common.{◌≡◌, true, cond, sym, ap, ◌∙◌, arith}
use Rattle.hedge.specs.Vocabulary.{first_masks}
use Rattle.do_derivation.specs.Plans.{Move, Plan, plan}
use Rattle.do_derivation.specs.declared.steps.Step.{Make}
use Rattle.do_derivation.specs.declared.moves.Move.TheVariants.{Group}
use Rattle.do_derivation.specs.Vocabulary.{listed}
use Rattle.do_derivation.proofs.StepViews.{step-Make}
use Rattle.identification_theory.specs.Vocabulary.{at_each, group_lists, unchain_lists, has_pair}
use Rattle.identify.specs.Lists.{onto, lists_view}
use Rattle.identify.proofs.Steps.{onto_more}
use Rattle.identify.proofs.groups.push_groups.Goals as goal

pub returns : goal.returns
returns c = λ rest.
    let ts = first_masks c.args.parts.now.sets c.args.parts.now.count in
    let chain = listed c.args.chain.now in
    let old = c.args.out.now.items in
    let groups = c.in_ok-group_lists.field-0 in
    let lists = c.in_ok-unchain_lists.field-0 in
    let pair : has_pair (listed c.args.order.now) ts ≡ true = sym c.has_pair.ensures ∙ grind (arith, c.if-not-has_pair.false) in
    c.in_ok-push_each.ensures rest ∙ ap (λ l. onto l (at_each 0 (lists_view lists.items) rest)) c.in_ok-push.ensures.items
    ∙ onto_more old (Make (Group groups)) (at_each 0 (lists_view lists.items) rest)
    ∙ ap (λ p. onto old (plan p (at_each 0 (lists_view lists.items) rest))) (step-Make (Group groups) ∙ ap (λ l. Plan.Make (Move.Group l)) c.in_ok-group_lists.ensures)
    ∙ ap (λ l. onto old (plan (Plan.Make (Move.Group (group_lists ts chain))) (at_each 0 l rest))) c.in_ok-unchain_lists.ensures.lists
    ∙ ap (λ b. onto old (cond b (plan (Plan.Make (Move.Group (group_lists ts chain))) (at_each 0 (unchain_lists ts chain) rest)) rest)) (sym pair)
