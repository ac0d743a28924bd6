use Rattle.std.proofs.Common.{◌≡◌, ℕ, ◌^◌, ◌<◌, Bool, true, false, sym, ◌∙◌, IsTrue, subst, inl, inr, arith}
use Rattle.std.proofs.lemmas.Bool.{or_cases, and_parts, and_from, or_left, or_right, not-true, not_from_false, eqb-true}
use Rattle.mixed_graph.specs.Vocabulary.{has, graph_of}
use Rattle.m_separation.specs.Walks.{IsReached}
use Rattle.m_separation.specs.States.{mask_of}
use Rattle.m_separation.proofs.Searches.{Comes, searching_none, searching_more, searching_smaller, end_found, reached_from_comes, comes_below}
use Rattle.m_separation.proofs.search.reach.Goals as goal
use Rattle.m_separation.proofs.search.reach.Goals.{After-empty, After-union-found, After-difference-2}

start_fits : (c : After-empty) → (h : Bool) → mask_of (record { tails = c.difference.result; heads = c.empty.result }) h < 2 ^ 64
start_fits c true = omega arith
start_fits c false = omega arith

pub grow-init : goal.grow-init
grow-init c = (
  searching_none (graph_of c.args.g.now) (has c.args.x.bits) (has c.args.w.bits) (mask_of (record { tails = c.difference.result; heads = c.empty.result }))
      c.requires.x c.difference.ensures.members c.empty.ensures.members,
  start_fits c,
  start_fits c,
)

found_fits : (c : After-union-found) → (h : Bool) → mask_of c.union-found.result h < 2 ^ 64
found_fits c true = omega arith
found_fits c false = omega arith

front_fits : (c : After-union-found) → (h : Bool) → mask_of c.difference-front.result h < 2 ^ 64
front_fits c true = omega arith
front_fits c false = omega arith

pub grow-preserved : goal.grow-preserved
grow-preserved c = (
  searching_more (graph_of c.args.g.now) (has c.args.x.bits) (has c.args.w.bits) (mask_of c.grow.found) (mask_of c.grow.front) (mask_of c.next.result)
      (mask_of c.union-found.result) (mask_of c.difference-front.result) c.next.ensures c.difference-front.ensures c.union-found.ensures c.grow.invariant.0,
  found_fits c,
  front_fits c,
)

pub grow-smaller : goal.grow-smaller
grow-smaller c = searching_smaller (graph_of c.args.g.now) (has c.args.x.bits) (has c.args.w.bits) (mask_of c.grow.found) (mask_of c.grow.front)
    (mask_of c.next.result)
    (mask_of c.union-found.result) (mask_of c.difference-front.result) c.next.ensures c.difference-front.ensures c.union-found.ensures
    (λ z. absurd (let t : c.is_empty.result ≡ true = c.is_empty.ensures.1 (z.1, z.0) in let f = c.grow-test.true in cc)) (found_fits c) (front_fits c)

done : (c : After-difference-2) → (h : Bool) → mask_of c.grow.front h ≡ 0
done c true = (c.is_empty.ensures.0 c.grow-test.false).1
done c false = (c.is_empty.ensures.0 c.grow-test.false).0

-- what is found at a vertex in the answer, and the answer at what is found
record Answered (g : goal.After-difference-2) (v : ℕ) : Type 0 where
  head : Bool
  comes : Comes (graph_of g.args.g.now) (has g.args.x.bits) (has g.args.w.bits) v head
  outside : has g.args.w.bits v ≡ false

answered : (c : After-difference-2) → (v : ℕ) → IsTrue (has c.difference-2.result.bits v) → Answered c v
answered c v i =
    let p = and_parts (has c.vertices.result.bits v) _ (sym (c.difference-2.ensures.members v) ∙ i) in
    let outside = not-true (has c.args.w.bits v) p.1 in
    elim (or_cases (has c.grow.found.tails.bits v) (has c.grow.found.heads.bits v) (sym (c.vertices.ensures v) ∙ p.0)) [
      | inl t ↦ record { head = false; comes = c.grow.invariant.0.sound false v t; outside = outside }
      | inr t ↦ record { head = true; comes = c.grow.invariant.0.sound true v t; outside = outside }
    ]

in_answer : (c : After-difference-2) → (h : Bool) (v : ℕ) → IsTrue (has (mask_of c.grow.found h) v) → has c.args.w.bits v ≡ false
    → IsTrue (has c.difference-2.result.bits v)
in_answer c true v i out = c.difference-2.ensures.members v ∙ and_from _ _ (c.vertices.ensures v ∙ or_right _ _ i) (not_from_false (has c.args.w.bits v) out)
in_answer c false v i out = c.difference-2.ensures.members v ∙ and_from _ _ (c.vertices.ensures v ∙ or_left _ _ i) (not_from_false (has c.args.w.bits v) out)

last_outside : (c : After-difference-2) → (v : ℕ) → IsReached (graph_of c.args.g.now) (has c.args.x.bits) (has c.args.w.bits) v → has c.args.w.bits v ≡ false
last_outside c v r = subst (λ u. has c.args.w.bits u ≡ false) (eqb-true _ v r.2.ends) r.2.last_outside

pub returns-clause-reached : goal.returns-clause-reached
returns-clause-reached c = λ v. (
  λ i. (let a = answered c v i in reached_from_comes _ _ _ v a.head a.comes a.outside),
  λ r. (let e = end_found (graph_of c.args.g.now) (has c.args.x.bits) (has c.args.w.bits) (mask_of c.grow.found) (mask_of c.grow.front) c.grow.invariant.0
      (done c) v r in
      in_answer c e.0 v e.1 (last_outside c v r)),
)

pub returns-clause-start : goal.returns-clause-start
returns-clause-start c = λ v i out. in_answer c false v (c.grow.invariant.0.started v i out) out

pub returns-clause-within : goal.returns-clause-within
returns-clause-within c = λ v i. let a = answered c v i in comes_below (graph_of c.args.g.now) c.args.g.now.valid (has c.args.x.bits) (has c.args.w.bits)
    v a.head a.comes
