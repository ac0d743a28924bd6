use Rattle.std.proofs.Common.{inl, inr, sym, arith}
use Rattle.mixed_graph.specs.Vocabulary.{graph_of}
use Rattle.markov_equivalence.proofs.Places.{after_here, place_of_taken}
use Rattle.markov_equivalence.proofs.comparison.parents_of_later.Goals as goal

pub returns-then-order-i : goal.returns-then-order-i
returns-then-order-i c = inl (
  after_here (graph_of c.args.k.now) c.args.k.now.valid c.order-order.result.list c.order-order.result.count c.order-order.ensures c.args.a c.args.b
      c.loop-i.i c.loop-i-test.true c.if-order-i.true c.requires.differ c.requires.b (λ j lt. (c.loop-i.invariant j lt).1),
  c.parents.ensures.members,
)

pub returns-then-order-i-2 : goal.returns-then-order-i-2
returns-then-order-i-2 c = inr (
  after_here (graph_of c.args.k.now) c.args.k.now.valid c.order-order.result.list c.order-order.result.count c.order-order.ensures c.args.b c.args.a
      c.loop-i.i c.loop-i-test.true c.if-order-i-2.true (λ e. c.requires.differ (sym e)) c.requires.a (λ j lt. (c.loop-i.invariant j lt).0),
  c.parents-then-order-i-2.ensures.members,
)

pub unreachable-requires : goal.unreachable-requires
unreachable-requires c =
    let p = place_of_taken c.order-order.result.list c.args.a c.order-order.result.count (c.order-order.ensures.all c.args.a c.requires.a) in
    let past = c.loop-i-test.false in
    (c.loop-i.invariant p.0 (omega (arith, p.1, past))).0 p.2
