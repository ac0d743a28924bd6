use Rattle.std.proofs.Common.{ℕ, ◌<◌, ◌||◌, get_or, sym, ap, ◌∙◌, arith, rules}
use Rattle.std.proofs.lemmas.List.{length-replicate}
use Rattle.mixed_graph.specs.Bits.{has}
use Rattle.mixed_graph.proofs.Lassos.{walked_none, walked_room, walked_more, lasso_from}
use Rattle.mixed_graph.proofs.cycles.walk_back.Goals as goal
use Rattle.mixed_graph.proofs.cycles.walk_back.Goals.{In-walk}

room : (c : In-walk) → c.walk.count < 64
room c = walked_room _ c.walk.list c.walk.place c.walk.count c.walk.seen.bits c.walk.v c.walk.invariant.1 (sym c.has.ensures ∙ c.walk-test.true)
    c.walk.invariant.0

pub walk-init : goal.walk-init
walk-init c = (
  walked_none _ _ _ c.empty-seen.result.bits c.lowest-v.result (length-replicate {A = ℕ} 64 0) (length-replicate {A = ℕ} 64 0) c.empty-seen.ensures.members,
  c.lowest-v.ensures.in_range,
  c.lowest-v.ensures.member,
)

pub bounds-list-count : goal.bounds-list-count
bounds-list-count c = room (goal.at.bounds-list-count c).In-walk

pub overflow_cast-place : goal.overflow_cast-place
overflow_cast-place c = let r = room (goal.at.overflow_cast-place c).In-walk in search (rules, r)

pub overflow_add-count : goal.overflow_add-count
overflow_add-count c = let r = room (goal.at.overflow_add-count c).In-walk in search (rules, r)

pub walk-smaller : goal.walk-smaller
walk-smaller c = let r = room (goal.at.walk-smaller c).In-walk in omega (arith, r)

pub walk-preserved : goal.walk-preserved
walk-preserved c = (
  walked_more (λ a b. has (get_or c.args.children.now a 0) b) c.walk.list c.walk.place c.walk.count c.walk.seen.bits c.walk.v c.union-seen.result.bits
      c.child_in-v.result
      c.walk.invariant.1 (sym c.has.ensures ∙ c.walk-test.true)
      (λ u. c.union-seen.ensures.members u ∙ ap (λ t. has c.walk.seen.bits u || t) (c.one.ensures.members u))
      c.child_in-v.ensures.arrow c.walk.invariant.0,
  c.child_in-v.ensures.in_range,
  c.child_in-v.ensures.member,
)

pub returns : goal.returns
returns c = lasso_from _ c.walk.list c.walk.place c.walk.count c.walk.seen.bits c.walk.v (sym c.has.ensures ∙ c.walk-test.false) c.walk.invariant.0
