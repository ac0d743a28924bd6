use Rattle.std.proofs.Common.{◌≡◌, get_or, length, take, arith}
use Rattle.mixed_graph.specs.Vocabulary.{graph_of}
use Rattle.hedge.specs.Vocabulary.{IsMaximalJoined, first_masks}
use Rattle.do_derivation.specs.Vocabulary.{listed}
use Rattle.identification_theory.specs.Vocabulary.{StopsAt}
use Rattle.identify.proofs.GatheredFactors.{Derives, GoesOn, district_at, factor_goes_on, factors_of, gathered_none, turn_end, turn_next, turn_stop}
use Rattle.identify.proofs.gathering.factors.Goals as goal
use Rattle.identify.proofs.gathering.factors.Goals.{After-factor-found, After-len}

pub loop-c-init : goal.loop-c-init
loop-c-init c =
    let g = graph_of c.args.g.now in
    let order = listed c.args.order.now in
    let no = c.no_factors-made.ensures in
    gathered_none (Derives c.args.wanted g order) (StopsAt g order) c.no_factors-made.result no.defs no.lemmas no.values no.lists

-- the set at hand is a district
district : (c : After-len) → IsMaximalJoined (graph_of c.args.g.now) c.args.d.bits
    (get_or (take c.args.parts.now.count c.args.parts.now.sets) c.loop-c.c-index (record { bits = 0 })).bits
district c = district_at c.args.parts.now.sets c.args.parts.now.count c.loop-c.c-index c.loop-c-test.true (graph_of c.args.g.now)
    c.args.d.bits c.requires.districts

pub factor-found-requires-clause-within : goal.factor-found-requires-clause-within
factor-found-requires-clause-within c = λ v i. c.requires.within v ((district (goal.at.factor-found-requires-clause-within c).After-len).inside v i)

pub factor-found-requires-clause-some : goal.factor-found-requires-clause-some
factor-found-requires-clause-some c = (district (goal.at.factor-found-requires-clause-some c).After-len).some

pub factor-found-requires-clause-joined : goal.factor-found-requires-clause-joined
factor-found-requires-clause-joined c = (district (goal.at.factor-found-requires-clause-joined c).After-len).joined

-- what was found for it
counted : (c : After-factor-found) → c.len.result ≡ length c.loop-c.made.defs.items
counted c = let e = c.len.ensures in let o = c.loop-c.made.defs.ok in omega (arith, e, o)

goes_on : (c : After-factor-found) → GoesOn (Derives c.args.wanted (graph_of c.args.g.now) (listed c.args.order.now))
    (StopsAt (graph_of c.args.g.now) (listed c.args.order.now))
    (get_or (take c.args.parts.now.count c.args.parts.now.sets) c.loop-c.c-index (record { bits = 0 })).bits c.len.result c.factor-found.result
goes_on c = let is = c.factor-found.ensures in factor_goes_on c.args.wanted (graph_of c.args.g.now) (listed c.args.order.now)
    (get_or (take c.args.parts.now.count c.args.parts.now.sets) c.loop-c.c-index (record { bits = 0 })).bits c.len.result c.factor-found.result
    is.factor is.few is.paired is.fault

pub returns-in-Err : goal.returns-in-Err
returns-in-Err c =
    let g = graph_of c.args.g.now in
    let order = listed c.args.order.now in
    let after = (goal.at.returns-in-Err c).After-factor-found in
    turn_stop (Derives c.args.wanted g order) (StopsAt g order) c.args.parts.now.sets c.args.parts.now.count c.loop-c.c-index c.loop-c.made c.loop-c.invariant
    c.loop-c-test.true c.len.result c.factor-found.result c.in-Err.stop (counted after) (goes_on after) c.in-Err.ensures.stop

pub loop-c-preserved : goal.loop-c-preserved
loop-c-preserved c =
    let g = graph_of c.args.g.now in
    let order = listed c.args.order.now in
    let after = (goal.at.loop-c-preserved c).After-factor-found in
    turn_next (Derives c.args.wanted g order) (StopsAt g order) c.args.parts.now.sets c.args.parts.now.count c.loop-c.c-index c.loop-c.made c.loop-c.invariant
    c.loop-c-test.true c.add_found.new.made c.len.result c.factor-found.result (counted after) (goes_on after) c.in-Ok.ensures.added

pub returns : goal.returns
returns c =
    let g = graph_of c.args.g.now in
    let order = listed c.args.order.now in
    factors_of c.args.wanted g order (first_masks c.args.parts.now.sets c.args.parts.now.count) c.loop-c.made
    (turn_end (Derives c.args.wanted g order) (StopsAt g order) c.args.parts.now.sets c.args.parts.now.count c.loop-c.c-index c.loop-c.made c.loop-c.invariant
    c.loop-c-test.false)
