use Rattle.std.proofs.Common.{Bool, arith, ◌==◌, ◌-◌, ℕ, slice_index, ◌∙◌, eqb-true}
use Rattle.mixed_graph.specs.Vocabulary.{has, graph_of}
use Rattle.m_separation.specs.Vocabulary.{steps_from}
use Rattle.markov_equivalence.proofs.Separations.{open_carried, open_between, last_below}
use Rattle.markov_equivalence.proofs.path_carry.carry_path.Goals as goal

-- src/lib.rt:29:42
pub one-requires-2 : goal.one-requires-2
one-requires-2 c =
    let walk = c.requires.path.walk in
    let below = last_below (graph_of c.args.g.now) c.args.g.now.valid (slice_index c.args.p.now.vertices 0)
    (steps_from c.args.p.now.vertices c.args.p.now.marks 0 (c.args.p.now.count - 1)) walk.vertex walk.walk in
    let ends = eqb-true _ _ walk.ends in
    let small = c.args.g.now.small in
    omega (arith, below, ends, small)

-- src/lib.rt:31:17
pub unreachable-requires : goal.unreachable-requires
unreachable-requires c =
    let x : ℕ → Bool = λ v. v == slice_index c.args.p.now.vertices 0 in
    let y : ℕ → Bool = λ v. v == slice_index c.args.p.now.vertices (c.args.p.now.count - 1) in
    let carried = open_carried (graph_of c.args.g.now) (graph_of c.args.h.now)
    c.args.g.now.valid c.args.h.now.valid c.requires.size c.requires.first c.requires.equivalent x y (has c.args.w.bits)
    (slice_index c.args.p.now.vertices 0, steps_from c.args.p.now.vertices c.args.p.now.marks 0 (c.args.p.now.count - 1), c.requires.path.walk) in
    let moved = open_between (graph_of c.args.h.now) x y (has c.one.result.bits) (has c.one-2.result.bits) (has c.args.w.bits)
    (λ v e. c.one.ensures.members v ∙ e) (λ v e. c.one-2.ensures.members v ∙ e) carried in
    c.in-None.ensures.none moved.0 moved.1 moved.2
