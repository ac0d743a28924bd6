use Rattle.std.proofs.Common.{ap, ◌∙◌}
use Rattle.mixed_graph.specs.Vocabulary.{has, graph_of}
use Rattle.markov_equivalence.specs.Sides.{side_without}
use Rattle.markov_equivalence.proofs.Shows.{edge_shown, collider_shown}
use Rattle.markov_equivalence.proofs.comparison.compare.Goals as goal

pub returns-in-Some-clause-shown : goal.returns-in-Some-clause-shown
returns-in-Some-clause-shown c =
    let s = c.separation.ensures in
    rw (s.a, s.b, s.side) (edge_shown (graph_of c.args.g.now) (graph_of c.args.h.now) c.args.g.now.valid c.args.h.now.valid c.requires.first c.requires.second
    c.in-Some.p.a c.in-Some.p.b (has c.separation.result.given.bits) c.side_without-side.result c.in-Some.ensures.found.differs
    (c.side_without-side.ensures ∙ ap side_without (c.has.ensures ∙ c.neighbours.ensures c.in-Some.p.b)) s.given)

pub returns-in-Some-first_collider-clause-shown : goal.returns-in-Some-first_collider-clause-shown
returns-in-Some-first_collider-clause-shown c =
    let s = c.separation-in-Some-first_collider.ensures in
    let t = c.in-Some-first_collider.t in
    rw (s.a, s.b, s.side) (collider_shown (graph_of c.args.g.now) (graph_of c.args.h.now)
    c.args.g.now.valid c.args.h.now.valid c.requires.first c.requires.second
    t.a t.b (has c.separation-in-Some-first_collider.result.given.bits)
    c.in_default.ensures.none t.m c.side_without-side-in-Some-first_collider.result c.in-Some-first_collider.ensures.found.here.differs
    (c.side_without-side-in-Some-first_collider.ensures ∙ ap side_without (c.has-in-Some-first_collider.ensures ∙ c.colliders.ensures t.m)) s.given)
