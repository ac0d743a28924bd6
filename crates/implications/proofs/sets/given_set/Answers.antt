use Rattle.std.proofs.Common.{◌≡◌, ◌<◌, ℕ, ◌↔◌, sym, subst, arith, IsTrue}
use Rattle.mixed_graph.specs.Vocabulary.{has, IsAncestor, graph_of}
use Rattle.implications.specs.Separable.{AreOtherAncestors}
use Rattle.implications.specs.Links.{AreAbove}
use Rattle.implications.proofs.Cuts.{side_from, inseparable, first_cut}
use Rattle.implications.proofs.Others.{pair_of, pair_is, others_are}
use Rattle.implications.proofs.sets.given_set.Goals as goal
use Rattle.implications.proofs.sets.given_set.Goals.{After-difference-others}

ends_are : (c : After-difference-others) → has c.union-ends.result.bits ≡ pair_of c.args.a c.args.b
ends_are c = pair_is (has c.union-ends.result.bits) (has c.one.result.bits) (has c.one-2.result.bits) c.args.a c.args.b c.union-ends.ensures.members
    c.one.ensures.members c.one-2.ensures.members

above_are : (c : After-difference-others) → AreAbove (graph_of c.args.g.now) c.args.a c.args.b (has c.ancestors-above.result.bits)
above_are c = subst (λ f. (v : ℕ) → IsTrue (has c.ancestors-above.result.bits v) ↔ IsAncestor (graph_of c.args.g.now) f v) (ends_are c)
    c.ancestors-above.ensures

others : (c : After-difference-others) → AreOtherAncestors (graph_of c.args.g.now) c.args.a c.args.b (has c.difference-others.result.bits)
others c = others_are (graph_of c.args.g.now) c.args.a c.args.b (has c.union-ends.result.bits) (has c.ancestors-above.result.bits)
    (has c.difference-others.result.bits) (ends_are c) (above_are c) c.difference-others.ensures.members

below : (c : After-difference-others) → c.args.a < c.args.g.now.n
below c = let e = c.requires.a in let f = c.requires.b in omega arith

pub thinned-requires-clause-above : goal.thinned-requires-clause-above
thinned-requires-clause-above c = above_are (goal.at.thinned-requires-clause-above c).After-difference-others

pub thinned-requires-clause-cut : goal.thinned-requires-clause-cut
thinned-requires-clause-cut c =
    let o = (goal.at.thinned-requires-clause-cut c).After-difference-others in
    first_cut (graph_of c.args.g.now) c.args.g.now.valid (record { a = c.args.a; b = c.args.b; above = c.ancestors-above.result }) (below o) c.requires.b
    (above_are o) (record { kept = c.difference-others.result; first = c.reached_by_links-first.result; second = c.reached_by_links-second.result }) (others o)
    (side_from (graph_of c.args.g.now) (has c.ancestors-above.result.bits) (has c.difference-others.result.bits) (has c.one-3.result.bits)
    (has c.reached_by_links-first.result.bits) c.args.a c.one-3.ensures.members c.reached_by_links-first.ensures)
    (side_from (graph_of c.args.g.now) (has c.ancestors-above.result.bits) (has c.difference-others.result.bits) (has c.one-4.result.bits)
    (has c.reached_by_links-second.result.bits) c.args.b c.one-4.ensures.members c.reached_by_links-second.ensures) (sym c.if-has.ensures)

pub returns-then-has-clause-none : goal.returns-then-has-clause-none
returns-then-has-clause-none c =
    let o = (goal.at.returns-then-has-clause-none c).After-difference-others in
    let side = side_from (graph_of c.args.g.now) (has c.ancestors-above.result.bits) (has c.difference-others.result.bits) (has c.one-3.result.bits)
    (has c.reached_by_links-first.result.bits) c.args.a c.one-3.ensures.members c.reached_by_links-first.ensures in
    inseparable (graph_of c.args.g.now) c.args.g.now.valid c.args.a c.args.b (below o) c.requires.b (has c.ancestors-above.result.bits) (above_are o)
    (has c.difference-others.result.bits) (others o) ((side c.args.b).0 (sym c.if-has.ensures))

pub returns-clause-given : goal.returns-clause-given
returns-clause-given c = record {
  others = has c.difference-others.result.bits;
  ancestors = others (goal.at.returns-clause-given c).After-difference-others;
  thinned = c.thinned.ensures.thinned;
  separating = c.thinned.ensures.separates;
}
