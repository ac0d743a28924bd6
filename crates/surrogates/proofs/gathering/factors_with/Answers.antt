use Rattle.std.proofs.Common.{◌≡◌, get_or, length, take, arith}
use Rattle.mixed_graph.specs.Vocabulary.{graph_of}
use Rattle.hedge.specs.Vocabulary.{IsMaximalJoined, first_masks}
use Rattle.prob_expr.specs.Vocabulary.{masks_of}
use Rattle.identify.proofs.GatheredFactors.{GoesOn, district_at, gathered_none, turn_end, turn_next, turn_stop}
use Rattle.surrogates.specs.Surrogates.{AreDerivedWith, StopsWith}
use Rattle.surrogates.proofs.GatheredWith.{factors_of, tried_goes_on}
use Rattle.surrogates.proofs.gathering.factors_with.Goals as goal
use Rattle.surrogates.proofs.gathering.factors_with.Goals.{After-first_factor-found, After-len}

pub loop-c-init : goal.loop-c-init
loop-c-init c =
    let g = graph_of c.args.g.now in
    let zs = masks_of c.args.experiments.now in
    let no = c.no_factors-made.ensures in
    gathered_none (AreDerivedWith g zs) (StopsWith g zs) c.no_factors-made.result no.defs no.lemmas no.values no.lists

-- the set at hand is a district
district : (c : After-len) → IsMaximalJoined (graph_of c.args.g.now) c.args.d.bits
    (get_or (take c.args.parts.now.count c.args.parts.now.sets) c.loop-c.c-index (record { bits = 0 })).bits
district c = district_at c.args.parts.now.sets c.args.parts.now.count c.loop-c.c-index c.loop-c-test.true (graph_of c.args.g.now)
    c.args.d.bits c.requires.districts

pub first_factor-found-requires-clause-within : goal.first_factor-found-requires-clause-within
first_factor-found-requires-clause-within c = λ v i. c.requires.within v ((district (goal.at.first_factor-found-requires-clause-within c).After-len).inside v i)

pub first_factor-found-requires-clause-some : goal.first_factor-found-requires-clause-some
first_factor-found-requires-clause-some c = (district (goal.at.first_factor-found-requires-clause-some c).After-len).some

pub first_factor-found-requires-clause-joined : goal.first_factor-found-requires-clause-joined
first_factor-found-requires-clause-joined c = (district (goal.at.first_factor-found-requires-clause-joined c).After-len).joined

-- what was found for it
counted : (c : After-first_factor-found) → c.len.result ≡ length c.loop-c.made.defs.items
counted c = let e = c.len.ensures in let o = c.loop-c.made.defs.ok in omega (arith, e, o)

goes_on : (c : After-first_factor-found) → GoesOn (AreDerivedWith (graph_of c.args.g.now) (masks_of c.args.experiments.now))
    (StopsWith (graph_of c.args.g.now) (masks_of c.args.experiments.now))
    (get_or (take c.args.parts.now.count c.args.parts.now.sets) c.loop-c.c-index (record { bits = 0 })).bits c.len.result c.first_factor-found.result
goes_on c = tried_goes_on (graph_of c.args.g.now) (masks_of c.args.experiments.now)
    (get_or (take c.args.parts.now.count c.args.parts.now.sets) c.loop-c.c-index (record { bits = 0 })).bits c.len.result c.first_factor-found.result
    c.first_factor-found.ensures.tried c.first_factor-found.ensures.fault

pub returns-in-Err : goal.returns-in-Err
returns-in-Err c =
    let g = graph_of c.args.g.now in
    let zs = masks_of c.args.experiments.now in
    let after = (goal.at.returns-in-Err c).After-first_factor-found in
    turn_stop (AreDerivedWith g zs) (StopsWith g zs) c.args.parts.now.sets c.args.parts.now.count c.loop-c.c-index c.loop-c.made c.loop-c.invariant
    c.loop-c-test.true c.len.result c.first_factor-found.result c.in-Err.stop (counted after) (goes_on after) c.in-Err.ensures.stop

pub loop-c-preserved : goal.loop-c-preserved
loop-c-preserved c =
    let g = graph_of c.args.g.now in
    let zs = masks_of c.args.experiments.now in
    let after = (goal.at.loop-c-preserved c).After-first_factor-found in
    turn_next (AreDerivedWith g zs) (StopsWith g zs) c.args.parts.now.sets c.args.parts.now.count c.loop-c.c-index c.loop-c.made c.loop-c.invariant
    c.loop-c-test.true c.add_found.new.made c.len.result c.first_factor-found.result (counted after) (goes_on after) c.in-Ok.ensures.added

pub returns : goal.returns
returns c =
    let g = graph_of c.args.g.now in
    let zs = masks_of c.args.experiments.now in
    factors_of g zs (first_masks c.args.parts.now.sets c.args.parts.now.count) c.loop-c.made
    (turn_end (AreDerivedWith g zs) (StopsWith g zs) c.args.parts.now.sets c.args.parts.now.count c.loop-c.c-index c.loop-c.made c.loop-c.invariant
    c.loop-c-test.false)
