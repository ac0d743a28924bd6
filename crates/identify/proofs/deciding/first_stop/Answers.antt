use Rattle.std.proofs.Common.{[], ◌∷◌, get_or, take, drop, map, sym, subst, ◌+◌}
use Rattle.mixed_graph.specs.declared.sets.VSet.{VSet}
use Rattle.mixed_graph.specs.Vocabulary.{graph_of}
use Rattle.hedge.specs.Vocabulary.{IsMaximalJoined}
use Rattle.identification_theory.specs.Vocabulary.{StopsAt}
use Rattle.identify.specs.Deciding.{AreFactorable}
use Rattle.identify.proofs.Existing.{factorable_append, stops_behind}
use Rattle.identify.proofs.GatheredFactors.{district_at, sets_all, sets_more, sets_split}
use Rattle.identify.proofs.deciding.first_stop.Goals as goal
use Rattle.identify.proofs.deciding.first_stop.Goals.{In-loop-c}

-- the set at hand is a district
district : (c : In-loop-c) → IsMaximalJoined (graph_of c.args.g.now) c.args.d.bits
    (get_or (take c.args.parts.now.count c.args.parts.now.sets) c.loop-c.c-index (record { bits = 0 })).bits
district c = district_at c.args.parts.now.sets c.args.parts.now.count c.loop-c.c-index c.loop-c-test.true (graph_of c.args.g.now)
    c.args.d.bits c.requires.districts

pub stop_of-requires-clause-within : goal.stop_of-requires-clause-within
stop_of-requires-clause-within c = λ v i. c.requires.within v ((district (goal.at.stop_of-requires-clause-within c).In-loop-c).inside v i)

pub stop_of-requires-clause-some : goal.stop_of-requires-clause-some
stop_of-requires-clause-some c = (district (goal.at.stop_of-requires-clause-some c).In-loop-c).some

pub stop_of-requires-clause-joined : goal.stop_of-requires-clause-joined
stop_of-requires-clause-joined c = (district (goal.at.stop_of-requires-clause-joined c).In-loop-c).joined

pub returns-in-Some-clause-stop : goal.returns-in-Some-clause-stop
returns-in-Some-clause-stop c =
    let g = graph_of c.args.g.now in
    let sets = c.args.parts.now.sets in
    let n = c.args.parts.now.count in
    let i = c.loop-c.c-index in
    λ order. subst (λ ts. StopsAt g order 0 ts (get_or (take n sets) i (record { bits = 0 })).bits c.in-Some.big.bits)
    (sym (sets_split sets n i c.loop-c-test.true))
    (stops_behind g order 0 (map (λ (s : VSet). s.bits) (take i (take n sets))) (map (λ (s : VSet). s.bits) (drop (i + 1) (take n sets)))
    (get_or (take n sets) i (record { bits = 0 })).bits c.in-Some.big.bits c.loop-c.invariant c.in-Some.ensures.stop)

pub loop-c-preserved : goal.loop-c-preserved
loop-c-preserved c =
    let g = graph_of c.args.g.now in
    let sets = c.args.parts.now.sets in
    let n = c.args.parts.now.count in
    let i = c.loop-c.c-index in
    subst (AreFactorable g) (sym (sets_more sets n i c.loop-c-test.true))
    (factorable_append g (map (λ (s : VSet). s.bits) (take i (take n sets))) ((get_or (take n sets) i (record { bits = 0 })).bits ∷ [])
    c.loop-c.invariant (c.in_default.ensures.factor, tt))

pub returns-clause-factors : goal.returns-clause-factors
returns-clause-factors c = subst (AreFactorable (graph_of c.args.g.now))
    (sets_all c.args.parts.now.sets c.args.parts.now.count c.loop-c.c-index c.loop-c-test.false) c.loop-c.invariant
