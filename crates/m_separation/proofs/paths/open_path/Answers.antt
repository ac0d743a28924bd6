use Rattle.std.proofs.Common.{◌≡◌, ℕ, ◌+◌, ◌<◌, Bool, false, refl, sym, IsTrue, subst, arith, ◌↔◌}
use Rattle.mixed_graph.specs.Vocabulary.{has, graph_of}
use Rattle.m_separation.specs.States.{level, mask_of, IsLed}
use Rattle.m_separation.proofs.Going.{open_to}
use Rattle.m_separation.proofs.Levels.{level-set_same}
use Rattle.m_separation.proofs.Nearest.{near_none, level-replicate, room_more, open_path_of, near_more}
use Rattle.m_separation.proofs.paths.open_path.Goals as goal
use Rattle.m_separation.proofs.paths.open_path.Goals.{After-next-front}

pub near-init : goal.near-init
near-init c = (
  near_none (graph_of c.args.g.now) (has c.args.x.bits) (has c.args.w.bits) (has c.difference-ends.result.bits)
      (record { tails = c.difference.result; heads = c.empty.result }) c.difference.ensures.members c.empty.ensures.members,
  sym (level-replicate (record { tails = c.difference.result; heads = c.empty.result })),
)

-- no vertex of the last level is an end
none_here : (c : After-next-front) → (h : Bool) (v : ℕ) → IsTrue (has (level c.near.levels c.near.count h) v) → has c.difference-ends.result.bits v ≡ false
none_here c h v i = c.in_default.ensures.none h v (subst (λ l. IsTrue (has (l h) v)) (sym c.near.invariant.1) i)

room : (c : After-next-front) → c.near.count + 1 < 64
room c = room_more (graph_of c.args.g.now) c.args.g.now.valid (has c.args.x.bits) (has c.args.y.bits) (has c.args.w.bits) (has c.difference-ends.result.bits)
    c.difference-ends.ensures.members
    c.near.levels c.near.count c.near.invariant.0 c.args.g.now.n refl c.args.g.now.small c.if-separated.ensures.open (none_here c)

pub near-preserved : goal.near-preserved
near-preserved c = (
  near_more (graph_of c.args.g.now) c.args.g.now.valid (has c.args.x.bits) (has c.args.y.bits) (has c.args.w.bits) (has c.difference-ends.result.bits)
      c.difference-ends.ensures.members
      c.near.levels c.near.count c.near.invariant.0 c.next-front.result (room c)
      (subst (λ l. (k : Bool) (u : ℕ) → IsTrue (has (mask_of c.next-front.result k) u) ↔ IsLed (graph_of c.args.g.now) (has c.args.w.bits) l u k)
      c.near.invariant.1 c.next-front.ensures)
      (none_here c),
  sym (level-set_same c.near.levels (c.near.count + 1) c.next-front.result (let s = c.near.invariant.0.sized in let r = room c in omega (arith, s, r))),
)

pub bounds-levels-count : goal.bounds-levels-count
bounds-levels-count c = room c

pub returns-in-Some-clause-found : goal.returns-in-Some-clause-found
returns-in-Some-clause-found c =
    open_path_of (graph_of c.args.g.now) c.args.g.now.valid (has c.args.x.bits) (has c.args.y.bits) (has c.args.w.bits) (has c.difference-ends.result.bits)
    c.difference-ends.ensures.members
    c.near.levels c.near.count c.near.invariant.0 c.trace.result.vertices c.trace.result.marks c.trace.result.count c.trace.ensures.count
    (open_to (graph_of c.args.g.now) (has c.args.x.bits) (has c.args.y.bits) (has c.args.w.bits) c.in-Some.s.vertex _ _
    (let e = c.difference-ends.ensures.members c.in-Some.s.vertex in let i = c.in-Some.ensures.inside in grind arith) c.trace.ensures.open_walk)

pub trace-requires-clause-member : goal.trace-requires-clause-member
trace-requires-clause-member c = subst (λ l. IsTrue (has (l c.in-Some.s.head) c.in-Some.s.vertex)) c.near.invariant.1 c.in-Some.ensures.member
