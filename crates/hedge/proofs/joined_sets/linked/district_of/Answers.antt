use Rattle.std.proofs.Common.{◌≡◌, ℕ, ◌^◌, true, sym, ◌∙◌, subst, inl, inr, arith}
use Rattle.std.proofs.lemmas.Bool.{cases_lt, eqb-true}
use Rattle.mixed_graph.specs.Vocabulary.{has, has_in_row, graph_of}
use Rattle.mixed_graph.specs.Reached.{Reached}
use Rattle.mixed_graph.proofs.Masks.{has-above, has-pow}
use Rattle.hedge.specs.Linked.{IsDistrict}
use Rattle.hedge.proofs.Parts.{linked_from_reached, reached_from_linked, district_maximal}
use Rattle.hedge.proofs.joined_sets.linked.district_of.Goals as goal
use Rattle.hedge.proofs.joined_sets.linked.district_of.Goals.{After-reached}

pub one-requires : goal.one-requires
one-requires c = elim (cases_lt c.args.v 64) [
  | inl l ↦ l
  | inr ge ↦ absurd (let e = has-above c.args.within.bits c.args.v (omega arith) ge in let i = c.requires.member in cc)
]

is_district : (c : After-reached) → IsDistrict (graph_of c.args.g.now) c.args.within.bits (2 ^ c.args.v) c.reached.result.bits
is_district c = record {
  sound = λ u i. linked_from_reached (graph_of c.args.g.now) c.args.g.now.valid (has c.args.within.bits) (has (2 ^ c.args.v)) u
      (subst (λ m. Reached (has_in_row c.args.g.now.spouses) (has m) (has c.args.within.bits) u) c.one.ensures.mask ((c.reached.ensures u).0 i));
  complete = λ u k. (c.reached.ensures u).1 (subst (λ m. Reached (has_in_row c.args.g.now.spouses) (has m) (has c.args.within.bits) u) (sym c.one.ensures.mask)
      (reached_from_linked (graph_of c.args.g.now) c.args.g.now.valid (has c.args.within.bits) (has (2 ^ c.args.v)) inside u k));
}
  where
    inside : (w : ℕ) → has (2 ^ c.args.v) w ≡ true → has c.args.within.bits w ≡ true
    inside w i = subst (λ x. has c.args.within.bits x ≡ true) (sym (eqb-true w c.args.v (sym (has-pow c.args.v w) ∙ i))) c.requires.member

pub returns-clause-district : goal.returns-clause-district
returns-clause-district c = is_district (goal.at.returns-clause-district c).After-reached

pub returns-clause-maximal : goal.returns-clause-maximal
returns-clause-maximal c = district_maximal (graph_of c.args.g.now) c.args.g.now.valid c.args.within.bits c.args.v c.reached.result.bits c.requires.member
    (is_district (goal.at.returns-clause-maximal c).After-reached)
