use Rattle.std.proofs.Common.{◌≡◌, ℕ, ◌<◌, true, ◌&&◌, not, ◌==◌, refl, sym, ap, ◌∙◌, arith}
use Rattle.std.proofs.lemmas.Bool.{eq-eqb}
use Rattle.std.proofs.lemmas.List.{length-replicate}
use Rattle.mixed_graph.specs.Bits.{has}
use Rattle.mixed_graph.specs.Shown.{graph_of}
use Rattle.mixed_graph.proofs.Masks.{lt_from_subset}
use Rattle.mixed_graph.proofs.PairMasks.{blank}
use Rattle.mixed_graph.proofs.Ordering.{ordering_none, ordering_room, ordering_more, order_from}
use Rattle.mixed_graph.proofs.mixed.Graph.order.Goals as goal
use Rattle.mixed_graph.proofs.mixed.Graph.order.Goals.{In-Some, After-difference-rest}

pub next-init : goal.next-init
next-init c = (
  ordering_none (graph_of c.args.self.now) _ c.below-rest.result.bits (length-replicate {A = ℕ} 64 0) (blank 64) c.below-rest.ensures.members,
  omega arith,
  omega arith,
)

room : (c : In-Some) → c.next.count < 64
room c = ordering_room (graph_of c.args.self.now) c.next.list c.next.count c.next.rest.bits c.in-Some.v c.in-Some.ensures.found.0 c.in-Some.ensures.found.1
    c.next.invariant.0

pub bounds-list-count : goal.bounds-list-count
bounds-list-count c = room (goal.at.bounds-list-count c).In-Some

rest_is : (c : After-difference-rest) → (u : ℕ) → has c.difference-rest.result.bits u ≡ (has c.next.rest.bits u && not (u == c.in-Some.v))
rest_is c u = c.difference-rest.ensures.members u ∙ ap (λ t. has c.next.rest.bits u && not t) (c.one.ensures.members u)

pub next-smaller : goal.next-smaller
next-smaller c = lt_from_subset _ _ c.in-Some.v (λ u h. let e = rest_is c u in grind arith)
    (let e = rest_is c c.in-Some.v in let s : (c.in-Some.v == c.in-Some.v) ≡ true = eq-eqb _ _ refl in grind arith) c.in-Some.ensures.found.1

pub next-preserved : goal.next-preserved
next-preserved c =
    let r = room (goal.at.next-preserved c).In-Some in (
      ordering_more (graph_of c.args.self.now) c.args.self.now.valid c.next.list c.next.count c.next.rest.bits c.in-Some.v c.difference-rest.result.bits
          c.in-Some.ensures.found.0 c.in-Some.ensures.found.1
          (λ u a. c.in-Some.ensures.found.2 u (c.args.self.now.agree u c.in-Some.v ∙ a))
          (λ u lt i. let p = c.in-Some.ensures.found.3 u lt i in (p.0, p.1, sym (c.args.self.now.agree p.0 u) ∙ p.2))
          (rest_is c) c.next.invariant.0,
      omega arith,
      omega (arith, r),
    )

pub returns : goal.returns
returns c = order_from (graph_of c.args.self.now) c.args.self.now.valid c.next.list c.next.count c.next.rest.bits
    (λ v i. let p = c.in_default.ensures.none v i in (p.0, p.1, sym (c.args.self.now.agree p.0 v) ∙ p.2)) c.args.self.now.small c.next.invariant.0
