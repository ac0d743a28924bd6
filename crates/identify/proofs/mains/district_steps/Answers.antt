use Rattle.std.proofs.Common.{◌<◌, ◌≤◌, All, length, subst, sym, ap, ◌∙◌, arith}
use Rattle.hedge.specs.Vocabulary.{first_masks}
use Rattle.do_derivation.specs.Plans.{Move, Plan, plan}
use Rattle.do_derivation.specs.declared.steps.Step.{Make}
use Rattle.do_derivation.specs.declared.moves.Move.TheVariants.{Chain}
use Rattle.do_derivation.specs.Vocabulary.{listed}
use Rattle.do_derivation.proofs.StepViews.{step-Make}
use Rattle.identification_theory.specs.Vocabulary.{at_each, in_order, home_lists, group_steps, unwrap_steps}
use Rattle.identify.specs.Lists.{onto, lists_view}
use Rattle.identify.proofs.Steps.{onto_more}
use Rattle.identify.proofs.StepLists.{in_order_all, more_districts}
use Rattle.identify.proofs.mains.district_steps.Goals as goal

pub push_groups-requires-clause-chain : goal.push_groups-requires-clause-chain
push_groups-requires-clause-chain c =
    subst (All (λ v. v < 64)) (sym c.in_order-chain.ensures.members) (in_order_all (λ v. v < 64) c.args.d.bits (listed c.args.order.now) c.requires.order)

pub returns : goal.returns
returns c = λ fs h.
    let ts = first_masks c.args.parts.now.sets c.args.parts.now.count in
    let order = listed c.args.order.now in
    let chain = in_order c.args.d.bits order in
    let factors = at_each 0 (lists_view c.args.lists.items) (unwrap_steps fs) in
    let groups = group_steps order chain ts factors in
    let homes = at_each 0 (home_lists c.args.d.bits ts 0 order) groups in
    let none = c.new-out.result.items in
    let two : 2 ≤ length ts = (let n = c.len.ensures in let t = c.if-len-lt2.false in let k = c.requires.counted in omega (arith, n, t, k)) in
    c.in_ok-push_unwrap.ensures fs h ∙ c.in_ok-push_each-2.ensures (unwrap_steps fs) ∙ c.in_ok-push_groups.ensures factors
    ∙ ap (λ l. onto c.push_each.new.out.items (group_steps order l ts factors)) c.in_order-chain.ensures.members
    ∙ c.in_ok-push_each.ensures groups ∙ ap (λ l. onto c.push.new.self.items (at_each 0 l groups)) c.in_ok-home_lists.ensures.lists
    ∙ ap (λ l. onto l homes) c.in_ok-push.ensures.items ∙ onto_more none (Make (Chain c.in_order-chain.result)) homes
    ∙ ap (λ p. onto none (plan p homes)) (step-Make (Chain c.in_order-chain.result) ∙ ap (λ l. Plan.Make (Move.Chain l)) c.in_order-chain.ensures.members)
    ∙ ap (λ l. onto l (plan (Plan.Make (Move.Chain chain)) homes)) c.new-out.ensures.items
    ∙ more_districts order c.args.d.bits ts (lists_view c.args.lists.items) fs two
