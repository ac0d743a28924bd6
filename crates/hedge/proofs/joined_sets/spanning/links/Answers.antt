use Rattle.std.proofs.Common.{◌≡◌, ℕ, ◌<◌, ◌≤◌, ◌||◌, true, false, set, get_or, replicate, length-set, inl, inr, sym, ap, ◌∙◌, subst, arith, rules}
use Rattle.std.proofs.lemmas.Bool.{cases_Bool, cases_lt, and_parts}
use Rattle.std.proofs.lemmas.List.{length-replicate, get_or-set_same, get_or-set_other}
use Rattle.mixed_graph.specs.Vocabulary.{has, graph_of, taken_by}
use Rattle.mixed_graph.proofs.Masks.{has-above, has-zero, some_member}
use Rattle.mixed_graph.proofs.PairMasks.{blank}
use Rattle.mixed_graph.proofs.Members.{length-members-le}
use Rattle.hedge.specs.Spanning.{IsNextLink}
use Rattle.hedge.proofs.Trees.{growing_none, growing_more, growing_room, growing_smaller, wanted_some, next_link, link_new, links_from}
use Rattle.hedge.proofs.Trees.{place_of_taken, taken_own, not_true}
use Rattle.hedge.proofs.joined_sets.spanning.links.Goals as goal
use Rattle.hedge.proofs.joined_sets.spanning.links.Goals.{After-lowest-v, After-union-near, After-next}

most : (c : After-next) → c.next.count ≤ 64
most c = let e = c.next.invariant.0.counted in let l = length-members-le (taken_by c.next.found c.next.count) 64 in omega arith

pub next-init : goal.next-init
next-init c = (
  growing_none (graph_of c.args.g.now) c.args.g.now.valid c.args.small.bits c.args.big.bits (set (replicate 64 0) 0 c.lowest-start.result) (replicate 64 0)
      c.lowest-start.result c.one-taken.result.bits
      c.spouses-near.result.bits
      (simp length-set (length-replicate {A = ℕ} 64 0)) (length-replicate {A = ℕ} 64 0) c.lowest-start.ensures.in_range
      (get_or-set_same (replicate 64 0) 0 c.lowest-start.result 0 (simp length-replicate (omega arith)))
      (λ i p. get_or-set_other (replicate 64 0) 0 i c.lowest-start.result 0 (omega arith) ∙ blank 64 i)
      (blank 64)
      (record { member = c.lowest-start.ensures.member; least = c.lowest-start.ensures.least })
      c.one-taken.ensures.members c.spouses-near.ensures.members,
  omega arith,
)

link : (c : After-lowest-v) → IsNextLink (graph_of c.args.g.now) (has c.args.small.bits) (has c.args.big.bits) (has c.next.taken.bits) c.lowest-v.result
link c = next_link (graph_of c.args.g.now) c.args.g.now.valid c.args.small.bits c.args.big.bits c.next.found c.next.partner c.next.count c.next.taken.bits
    c.next.near.bits c.next.invariant.0
    c.wanted.result.bits c.intersection.result.bits c.lowest-v.result c.wanted.ensures c.intersection.ensures.members c.lowest-v.ensures.member
    c.lowest-v.ensures.least

room : (c : After-lowest-v) → c.next.count < 64
room c = growing_room (graph_of c.args.g.now) c.args.g.now.valid c.args.small.bits c.args.big.bits c.next.found c.next.partner c.next.count c.next.taken.bits
    c.next.near.bits c.next.invariant.0
    c.lowest-v.result c.lowest-v.ensures.in_range (link_new (graph_of c.args.g.now)
    c.args.g.now.valid c.args.small.bits c.args.big.bits c.next.found c.next.partner c.next.count c.next.taken.bits c.next.near.bits c.next.invariant.0
    c.lowest-v.result (link c)).0

pub lowest-v-requires : goal.lowest-v-requires
lowest-v-requires c =
    wanted_some (graph_of c.args.g.now) c.args.g.now.valid c.args.small.bits c.args.big.bits c.next.found c.next.partner c.next.count c.next.taken.bits
    c.next.near.bits c.next.invariant.0
    c.wanted.result.bits c.intersection.result.bits c.requires.inside c.requires.small_joined c.requires.big_joined c.wanted.ensures
    c.intersection.ensures.members
    (let m = some_member c.difference.result.bits (λ z. absurd (let t = c.is_empty.ensures.none.1 z in let f = c.next-test.true in cc)) (omega arith) in
    let p = and_parts _ _ (sym (c.difference.ensures.members m.0) ∙ m.1) in (m.0, p.0, not_true _ p.1))

pub earliest-requires-clause-size : goal.earliest-requires-clause-size
earliest-requires-clause-size c = let r = room (goal.at.earliest-requires-clause-size c).After-lowest-v in omega arith

pub earliest-requires-clause-vertices : goal.earliest-requires-clause-vertices
earliest-requires-clause-vertices c = λ i l. elim (cases_lt (get_or c.next.found i 0) 64) [
  | inl b ↦ b
  | inr ge ↦ absurd (let t = c.next.invariant.0.taken_is (get_or c.next.found i 0) ∙ taken_own c.next.found c.next.count i l in
      let e = has-above c.next.taken.bits (get_or c.next.found i 0) c.next.invariant.1 ge in cc)
]

pub earliest-requires-clause-some : goal.earliest-requires-clause-some
earliest-requires-clause-some c =
    let j = (link_new (graph_of c.args.g.now) c.args.g.now.valid c.args.small.bits c.args.big.bits c.next.found c.next.partner c.next.count c.next.taken.bits
    c.next.near.bits c.next.invariant.0 c.lowest-v.result (link (goal.at.earliest-requires-clause-some c).After-lowest-v)).1 in
    let p = place_of_taken c.next.found c.next.count j.other (sym (c.next.invariant.0.taken_is j.other) ∙ j.is_found) in
    (p.0, p.1, subst (λ u. has (get_or c.args.g.now.spouses c.lowest-v.result 0) u ≡ true) (sym p.2) j.edge)

pub bounds-partner-count : goal.bounds-partner-count
bounds-partner-count c = room (goal.at.bounds-partner-count c).After-lowest-v

pub bounds-found-count : goal.bounds-found-count
bounds-found-count c = room (goal.at.bounds-found-count c).After-lowest-v

pub overflow_add-count : goal.overflow_add-count
overflow_add-count c = let r = room (goal.at.overflow_add-count c).After-lowest-v in search (rules, r)

near_is : (c : After-union-near) → (u : ℕ) → has c.union-near.result.bits u ≡ (has c.next.near.bits u || (graph_of c.args.g.now).both c.lowest-v.result u)
near_is c u = c.union-near.ensures.members u ∙ ap (λ t. has c.next.near.bits u || t) (c.spouses.ensures.members u)

pub next-smaller : goal.next-smaller
next-smaller c = growing_smaller (graph_of c.args.g.now) c.args.g.now.valid c.args.small.bits c.args.big.bits c.next.found c.next.partner c.next.count
    c.next.taken.bits c.next.near.bits c.next.invariant.0
    c.lowest-v.result c.earliest.result c.union-taken.result.bits c.union-near.result.bits c.lowest-v.ensures.in_range
    (link (goal.at.next-smaller c).After-lowest-v) c.earliest.ensures
    (λ u. c.union-taken.ensures.members u ∙ ap (λ t. has c.next.taken.bits u || t) (c.one.ensures.members u))
    (near_is (goal.at.next-smaller c).After-union-near) (omega arith)

pub next-preserved : goal.next-preserved
next-preserved c = (
  growing_more (graph_of c.args.g.now) c.args.g.now.valid c.args.small.bits c.args.big.bits c.next.found c.next.partner c.next.count c.next.taken.bits
      c.next.near.bits c.next.invariant.0
      c.lowest-v.result c.earliest.result c.union-taken.result.bits c.union-near.result.bits c.lowest-v.ensures.in_range
      (link (goal.at.next-preserved c).After-lowest-v) c.earliest.ensures
      (λ u. c.union-taken.ensures.members u ∙ ap (λ t. has c.next.taken.bits u || t) (c.one.ensures.members u))
      (near_is (goal.at.next-preserved c).After-union-near),
  omega arith,
)

pub overflow_cast-result : goal.overflow_cast-result
overflow_cast-result c = let m = most (goal.at.overflow_cast-result c).After-next in search (rules, m)

pub invariant_of-result : goal.invariant_of-result
invariant_of-result c = record {
  in_range = most (goal.at.invariant_of-result c).After-next;
  blank_found = c.next.invariant.0.blank;
  blank_partner = c.next.invariant.0.blank_partner;
  start = c.next.invariant.0.start;
}

pub returns : goal.returns
returns c = links_from (graph_of c.args.g.now) c.args.g.now.valid c.args.small.bits c.args.big.bits c.next.found c.next.partner c.next.count c.next.taken.bits
    c.next.near.bits c.next.invariant.0
    (λ u i. elim (cases_Bool (has c.next.taken.bits u)) [
      | inl t ↦ t
      | inr f ↦ absurd (let z : has c.difference.result.bits u ≡ false = rw (c.is_empty.ensures.none.0 c.next-test.false) (has-zero u) in let d =
          c.difference.ensures.members u in grind arith)
    ])
