use Rattle.std.proofs.Common.{ℕ, ◌+◌, sym, ◌∙◌, subst, take, map, get_or, arith}
use Rattle.mixed_graph.specs.declared.sets.VSet.{VSet}
use Rattle.mixed_graph.specs.Vocabulary.{graph_of, minus, all}
use Rattle.mixed_graph.proofs.Masks.{positive_from_has}
use Rattle.hedge.specs.Vocabulary.{IsMaximalJoined}
use Rattle.identification_theory.specs.Vocabulary.{IsUnidentified}
use Rattle.identify.proofs.GatheredFactors.{district_at, set_at, set_in, sets_all, sets_more}
use Rattle.natural_id.proofs.Making.{made_more, read_value, are_read}
use Rattle.natural_id.proofs.parts.parts_of.Goals as goal
use Rattle.natural_id.proofs.parts.parts_of.Goals.{In-loop-c}

-- the set at hand is a district
district : (c : In-loop-c) → IsMaximalJoined (graph_of c.args.g.now) c.args.d.bits
    (get_or (take c.args.districts.now.count c.args.districts.now.sets) c.loop-c.c-index (record { bits = 0 })).bits
district c = district_at c.args.districts.now.sets c.args.districts.now.count c.loop-c.c-index c.loop-c-test.true (graph_of c.args.g.now)
    c.args.d.bits c.requires.districts

pub returns-in-Some : goal.returns-in-Some
returns-in-Some c = (
  subst (λ (s : VSet). IsMaximalJoined (graph_of c.args.g.now) c.args.d.bits s.bits) (sym c.in-Some.ensures.0)
      (district (goal.at.returns-in-Some c).In-loop-c),
  c.in-Some.ensures.1,
)

pub part_of-requires-clause-within : goal.part_of-requires-clause-within
part_of-requires-clause-within c = λ v i. c.requires.within v ((district (goal.at.part_of-requires-clause-within c).In-loop-c).inside v i)

pub part_of-requires-clause-some : goal.part_of-requires-clause-some
part_of-requires-clause-some c =
    let some = (district (goal.at.part_of-requires-clause-some c).In-loop-c).some in
    positive_from_has (get_or (take c.args.districts.now.count c.args.districts.now.sets) c.loop-c.c-index (record { bits = 0 })).bits some.0 some.1

pub part_of-requires-clause-found : goal.part_of-requires-clause-found
part_of-requires-clause-found c =
    let sets = c.args.districts.now.sets in
    let n = c.args.districts.now.count in
    let i = c.loop-c.c-index in
    subst (λ k. (small big : ℕ) → IsUnidentified (graph_of c.args.g.now) (minus (all c.args.g.now.n) k) k small big → ⊥)
    (set_at sets n i c.loop-c-test.true) (c.requires.found i 0 (set_in sets n i c.loop-c-test.true))

pub loop-c-preserved : goal.loop-c-preserved
loop-c-preserved c =
    let sets = c.args.districts.now.sets in
    let n = c.args.districts.now.count in
    let i = c.loop-c.c-index in
    let at : VSet = get_or (take n sets) i (record { bits = 0 }) in
    made_more (graph_of c.args.g.now) c.args.x.bits c.args.through.bits (map (λ (s : VSet). s.bits) (take i (take n sets)))
    (map (λ (s : VSet). s.bits) (take (i + 1) (take n sets))) c.loop-c.parts.items c.push.new.self.items at c.intersection-second.result c.in_ok-part.part
    c.loop-c.invariant c.in_ok-push.ensures.items (sets_more sets n i c.loop-c-test.true) c.in_ok-part.ensures
    (read_value (graph_of c.args.g.now) at.bits c.args.x.bits c.args.through.bits c.intersection.result.bits c.parents_of.result.bits
    c.intersection-second.result.bits c.in_default.ensures c.intersection.ensures.members c.parents_of.ensures c.intersection-second.ensures.members)
    (are_read (graph_of c.args.g.now) at.bits c.args.x.bits c.args.through.bits c.intersection.result.bits c.parents_of.result.bits
    c.intersection-second.result.bits c.intersection.ensures.members c.parents_of.ensures c.intersection-second.ensures.members)

pub returns : goal.returns
returns c =
    let all_sets = sets_all c.args.districts.now.sets c.args.districts.now.count c.loop-c.c-index c.loop-c-test.false in
    (c.loop-c.invariant.districts ∙ all_sets, c.loop-c.invariant.parts, c.loop-c.invariant.found)
