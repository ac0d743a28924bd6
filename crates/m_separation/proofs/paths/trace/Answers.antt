use Rattle.std.proofs.Common.{◌≡◌, ℕ, suc, ◌+◌, ◌-◌, Bool, true, false, replicate, set, IsTrue, subst, arith}
use Rattle.std.proofs.lemmas.List.{length-replicate}
use Rattle.mixed_graph.specs.Vocabulary.{has, graph_of}
use Rattle.m_separation.specs.declared.marks.Mark.{Mark}
use Rattle.m_separation.specs.declared.marks.Mark.TheVariants.{Out}
use Rattle.m_separation.specs.States.{level}
use Rattle.m_separation.proofs.Traces.{Traced, traced_none, traced_more, walk_from_trace}
use Rattle.m_separation.proofs.paths.trace.Goals as goal
use Rattle.m_separation.proofs.paths.trace.Goals.{After-back}

pub back-init : goal.back-init
back-init c = (
  (let t = traced_none (graph_of c.args.g.now) (has c.args.w.bits) (replicate 64 0) (replicate 64 Out) c.args.count c.args.last.vertex c.args.last.head
      (length-replicate {A = ℕ} 64 0) (length-replicate {A = Mark} 64 Out) c.requires.count in
      subst (λ k. Traced (graph_of c.args.g.now) (has c.args.w.bits) c.args.last.vertex (set (replicate 64 0) c.args.count c.args.last.vertex)
      (replicate 64 Out) c.args.count k c.args.last.vertex c.args.last.head)
      (let e : 0 ≡ c.args.count - c.args.count = omega arith in e) t),
  c.requires.member,
  c.requires.vertex,
  omega arith,
)

pub link_to-link-requires-clause-led : goal.link_to-link-requires-clause-led
link_to-link-requires-clause-led c =
    let e : c.back.left ≡ c.back.left - 1 + 1 = omega arith in
    (c.requires.levels.leads (c.back.left - 1) (omega arith) c.back.s.head c.back.s.vertex).0
    (subst (λ j. IsTrue (has (level c.args.levels.now j c.back.s.head) c.back.s.vertex)) e c.back.invariant.1)

pub back-preserved : goal.back-preserved
back-preserved c =
    let e : c.back.left ≡ c.back.left - 1 + 1 = omega arith in
    let n : suc (c.args.count - c.back.left) ≡ c.args.count - (c.back.left - 1) = omega arith in
    let l = c.link_to-link.result in
    let t = subst (λ j. Traced (graph_of c.args.g.now) (has c.args.w.bits) c.args.last.vertex c.back.vertices c.back.marks j (c.args.count - c.back.left)
    c.back.s.vertex c.back.s.head) e c.back.invariant.0 in
    let more = traced_more (graph_of c.args.g.now) (has c.args.w.bits) c.args.last.vertex c.back.vertices c.back.marks (c.back.left - 1)
    (c.args.count - c.back.left) c.back.s.vertex c.back.s.head
    l.from.vertex l.from.head l.mark (omega arith) c.link_to-link.ensures.joined c.link_to-link.ensures.passed c.link_to-link.ensures.arrives t in (
      subst (λ k. Traced (graph_of c.args.g.now) (has c.args.w.bits) c.args.last.vertex (set c.back.vertices (c.back.left - 1) l.from.vertex)
          (set c.back.marks (c.back.left - 1) l.mark)
          (c.back.left - 1) k l.from.vertex l.from.head) n more,
      c.link_to-link.ensures.member,
      c.link_to-link.ensures.in_range,
      omega arith,
    )

-- the trace is back at level 0
record Begun (c : After-back) : Type 0 where
  begins : IsTrue (has c.args.x.bits c.back.s.vertex)
  outside : has c.args.w.bits c.back.s.vertex ≡ false

begun : (c : After-back) → Begun c
begun c =
    let e : c.back.left ≡ 0 = omega arith in
    at c.back.s.head (subst (λ j. IsTrue (has (level c.args.levels.now j c.back.s.head) c.back.s.vertex)) e c.back.invariant.1)
  where
    at : (h : Bool) → IsTrue (has (level c.args.levels.now 0 h) c.back.s.vertex) → Begun c
    at true i = absurd (let f = c.requires.levels.none c.back.s.vertex in cc)
    at false i = let p = (c.requires.levels.begins c.back.s.vertex).0 i in record { begins = p.0; outside = p.1 }

pub returns-clause-open_walk : goal.returns-clause-open_walk
returns-clause-open_walk c =
    let b = begun c in
    let e : c.back.left ≡ 0 = omega arith in
    let n : c.args.count - c.back.left ≡ c.args.count = omega arith in
    let t = subst (λ k. Traced (graph_of c.args.g.now) (has c.args.w.bits) c.args.last.vertex c.back.vertices c.back.marks 0 k c.back.s.vertex c.back.s.head) n
    (subst (λ j. Traced (graph_of c.args.g.now) (has c.args.w.bits) c.args.last.vertex c.back.vertices c.back.marks j (c.args.count - c.back.left)
    c.back.s.vertex c.back.s.head) e c.back.invariant.0) in
    walk_from_trace (graph_of c.args.g.now) (has c.args.x.bits) (has c.args.w.bits)
    c.args.last.vertex c.back.vertices c.back.marks c.args.count c.back.s.vertex c.back.s.head
    (c.requires.x c.back.s.vertex b.begins) b.begins b.outside c.requires.outside t
