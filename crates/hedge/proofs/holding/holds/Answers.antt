use Rattle.std.proofs.Common.{refl, arith}
use Rattle.mixed_graph.specs.Vocabulary.{has, graph_of}
use Rattle.mixed_graph.proofs.Masks.{apart_from_meet}
use Rattle.hedge.specs.Hedges.{Meets, AreHedgeSets}
use Rattle.hedge.specs.Faults.{IsOffIn}
use Rattle.hedge.proofs.Reaching.{meets_of, link_wrong}
use Rattle.hedge.proofs.holding.holds.Goals as goal
use Rattle.hedge.proofs.holding.holds.Goals.{Else-not-has_sets, Else-is_empty, Else-not-is_empty}

sets : (c : Else-not-has_sets) → AreHedgeSets (graph_of c.args.g.now) c.args.h.now
sets c = c.has_sets.ensures.0 c.if-not-has_sets.false

meets : (c : Else-is_empty) → Meets (has c.args.h.now.big.bits) (has c.args.x.bits)
meets c = meets_of c.args.h.now.big.bits c.args.x.bits c.intersection.result.bits c.intersection.ensures.members
    (λ z. absurd (let t = c.is_empty.ensures.none.1 z in let f = c.if-is_empty.false in cc)) (omega arith)

off : (c : Else-not-is_empty) → IsOffIn (graph_of c.args.g.now) c.args.x.bits c.args.h.now
off c = (
  (
    c.has_sets.ensures.0 c.if-not-has_sets.false,
    meets_of c.args.h.now.big.bits c.args.x.bits c.intersection.result.bits c.intersection.ensures.members
        (λ z. absurd (let t = c.is_empty.ensures.none.1 z in let f = c.if-is_empty.false in cc)) (omega arith),
  ),
  apart_from_meet c.intersection-2.result.bits c.args.h.now.small.bits c.args.x.bits c.intersection-2.ensures.members
      (c.is_empty-2.ensures.none.0 c.if-not-is_empty.false),
)

pub returns-then-is_empty-clause-hedge : goal.returns-then-is_empty-clause-hedge
returns-then-is_empty-clause-hedge c = (
  λ e. absurd (cc),
  λ h. absurd (let o = apart_from_meet c.intersection.result.bits c.args.h.now.big.bits c.args.x.bits c.intersection.ensures.members
      (c.is_empty.ensures.none.0 c.if-is_empty.true)
      h.meets.vertex h.meets.in_first in let i = h.meets.in_second in cc),
)

pub returns-then-is_empty-clause-fault : goal.returns-then-is_empty-clause-fault
returns-then-is_empty-clause-fault c = (
  c.has_sets.ensures.0 c.if-not-has_sets.false,
  apart_from_meet c.intersection.result.bits c.args.h.now.big.bits c.args.x.bits c.intersection.ensures.members (c.is_empty.ensures.none.0 c.if-is_empty.true),
)

pub returns-then-not-is_empty-clause-hedge : goal.returns-then-not-is_empty-clause-hedge
returns-then-not-is_empty-clause-hedge c = (
  λ e. absurd (cc),
  λ h. absurd (
      let m = meets_of c.args.h.now.small.bits c.args.x.bits c.intersection-2.result.bits c.intersection-2.ensures.members
      (λ z. absurd (let t = c.is_empty-2.ensures.none.1 z in let f = c.if-not-is_empty.true in cc)) (omega arith) in
      let o = h.apart m.vertex m.in_first in let i = m.in_second in cc),
)

pub returns-then-not-is_empty-clause-fault : goal.returns-then-not-is_empty-clause-fault
returns-then-not-is_empty-clause-fault c = (
  (c.has_sets.ensures.0 c.if-not-has_sets.false, meets (goal.at.returns-then-not-is_empty-clause-fault c).Else-is_empty),
  meets_of c.args.h.now.small.bits c.args.x.bits c.intersection-2.result.bits c.intersection-2.ensures.members
      (λ z. absurd (let t = c.is_empty-2.ensures.none.1 z in let f = c.if-not-is_empty.true in cc)) (omega arith),
)

pub returns-in-Some-clause-fault : goal.returns-in-Some-clause-fault
returns-in-Some-clause-fault c = (off (goal.at.returns-in-Some-clause-fault c).Else-not-is_empty, c.in-Some.ensures.wrong)

pub wrong_link-requires : goal.wrong_link-requires
wrong_link-requires c = λ v i. let l = (c.has_sets.ensures.0 c.if-not-has_sets.false).low v i in let s = c.args.g.now.small in omega arith

pub returns-in-Some-wrong_link-clause-hedge : goal.returns-in-Some-wrong_link-clause-hedge
returns-in-Some-wrong_link-clause-hedge c = (
  λ e. absurd (cc),
  λ h. absurd
      (link_wrong (graph_of c.args.g.now) c.args.h.now c.in-Some-wrong_link.v c.in-Some-wrong_link.ensures.wrong h.links),
)

pub returns-in-Some-wrong_link-clause-fault : goal.returns-in-Some-wrong_link-clause-fault
returns-in-Some-wrong_link-clause-fault c = (
  (off (goal.at.returns-in-Some-wrong_link-clause-fault c).Else-not-is_empty, c.in_default.ensures.right),
  c.in-Some-wrong_link.ensures.wrong,
)

pub returns-in-Some-lost_root-clause-fault : goal.returns-in-Some-lost_root-clause-fault
returns-in-Some-lost_root-clause-fault c = (
  (off (goal.at.returns-in-Some-lost_root-clause-fault c).Else-not-is_empty, c.in_default.ensures.right),
  c.in_default-wrong_link.ensures.right,
  c.in-Some-lost_root.ensures.wrong,
)

pub returns-in-None-clause-hedge : goal.returns-in-None-clause-hedge
returns-in-None-clause-hedge c =
    let o = off (goal.at.returns-in-None-clause-hedge c).Else-not-is_empty in (
      λ e. record {
        sets = o.0.0;
        meets = o.0.1;
        apart = o.1;
        choices = c.in_default.ensures.right;
        links = c.in_default-wrong_link.ensures.right;
        roots = c.in-None.ensures.right;
      },
      λ h. refl,
    )
