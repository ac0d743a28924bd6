use Rattle.std.proofs.Common.{◌≡◌, ℕ, true, ◌&&◌, not, ◌==◌, refl, sym, ap, ◌∙◌, arith}
use Rattle.std.proofs.lemmas.Bool.{eq-eqb}
use Rattle.mixed_graph.specs.Bits.{has, members_below}
use Rattle.mixed_graph.proofs.Masks.{lt_from_subset}
use Rattle.mixed_graph.proofs.FirstMembers.{members-empty, members-lowest, members-without, members-some, compare_less, compare_greater, compare_same}
use Rattle.mixed_graph.proofs.sets.VSet.compare_members.Goals as goal
use Rattle.mixed_graph.proofs.sets.VSet.compare_members.Goals.{After-difference-a, After-difference-b}

pub returns-then-is_empty : goal.returns-then-is_empty
returns-then-is_empty c = sym (c.firsts.invariant.0 ∙ (
    let a = members-some c.firsts.a.bits (λ z. absurd (let t = c.is_empty.ensures.none.1 z in let f = c.firsts-test.true in cc)) (omega arith) in
    let b = members-empty c.firsts.b.bits (c.is_empty-in-firsts.ensures.none.0 c.if-is_empty.true) in
    rw (a.2, b) refl))

pub returns-then-p-q : goal.returns-then-p-q
returns-then-p-q c = sym (c.firsts.invariant.0 ∙ (
    let a = members-lowest c.firsts.a.bits c.lowest-p.result c.lowest-p.ensures.in_range c.lowest-p.ensures.member c.lowest-p.ensures.least in
    let b = members-lowest c.firsts.b.bits c.lowest-q.result c.lowest-q.ensures.in_range c.lowest-q.ensures.member c.lowest-q.ensures.least in
    rw (a.1, b.1) (compare_less c.lowest-p.result c.lowest-q.result a.0 b.0 c.if-p-q.true)))

pub returns-then-q-p : goal.returns-then-q-p
returns-then-q-p c = sym (c.firsts.invariant.0 ∙ (
    let a = members-lowest c.firsts.a.bits c.lowest-p.result c.lowest-p.ensures.in_range c.lowest-p.ensures.member c.lowest-p.ensures.least in
    let b = members-lowest c.firsts.b.bits c.lowest-q.result c.lowest-q.ensures.in_range c.lowest-q.ensures.member c.lowest-q.ensures.least in
    rw (a.1, b.1) (compare_greater c.lowest-p.result c.lowest-q.result a.0 b.0 c.if-q-p.true)))

without_p : (c : After-difference-a) → (u : ℕ) → has c.difference-a.result.bits u ≡ (has c.firsts.a.bits u && not (u == c.lowest-p.result))
without_p c u = c.difference-a.ensures.members u ∙ ap (λ t. has c.firsts.a.bits u && not t) (c.one.ensures.members u)

without_q : (c : After-difference-b) → (u : ℕ) → has c.difference-b.result.bits u ≡ (has c.firsts.b.bits u && not (u == c.lowest-q.result))
without_q c u = c.difference-b.ensures.members u ∙ ap (λ t. has c.firsts.b.bits u && not t) (c.one-in-firsts.ensures.members u)

pub firsts-smaller : goal.firsts-smaller
firsts-smaller c = let d = (goal.at.firsts-smaller c).After-difference-a in
    lt_from_subset _ _ c.lowest-p.result (λ u h. let e = without_p d u in grind arith)
    (let e = without_p d c.lowest-p.result in let s : (c.lowest-p.result == c.lowest-p.result) ≡ true = eq-eqb _ _ refl in grind arith)
    c.lowest-p.ensures.member

pub firsts-preserved : goal.firsts-preserved
firsts-preserved c = (
  c.firsts.invariant.0 ∙ (
      let a = members-without c.firsts.a.bits c.difference-a.result.bits c.lowest-p.result c.lowest-p.ensures.in_range c.lowest-p.ensures.member
      c.lowest-p.ensures.least
      (without_p (goal.at.firsts-preserved c).After-difference-a) in
      let b = members-without c.firsts.b.bits c.difference-b.result.bits c.lowest-q.result c.lowest-q.ensures.in_range c.lowest-q.ensures.member
      c.lowest-q.ensures.least
      (without_q (goal.at.firsts-preserved c).After-difference-b) in
      rw (a, b) (compare_same c.lowest-p.result c.lowest-q.result (members_below (has c.difference-a.result.bits) 64)
      (members_below (has c.difference-b.result.bits) 64) (omega arith))),
  omega arith,
  omega arith,
)

pub returns-then-is_empty-2 : goal.returns-then-is_empty-2
returns-then-is_empty-2 c = sym (c.firsts.invariant.0 ∙ (
    let a = members-empty c.firsts.a.bits (c.is_empty.ensures.none.0 c.firsts-test.false) in
    let b = members-empty c.firsts.b.bits (c.is_empty-2.ensures.none.0 c.if-is_empty-2.true) in
    rw (a, b) refl))

pub returns-else-is_empty-2 : goal.returns-else-is_empty-2
returns-else-is_empty-2 c = sym (c.firsts.invariant.0 ∙ (
    let a = members-empty c.firsts.a.bits (c.is_empty.ensures.none.0 c.firsts-test.false) in
    let b = members-some c.firsts.b.bits (λ z. absurd (let t = c.is_empty-2.ensures.none.1 z in let f = c.if-is_empty-2.false in cc)) (omega arith) in
    rw (a, b.2) refl))
