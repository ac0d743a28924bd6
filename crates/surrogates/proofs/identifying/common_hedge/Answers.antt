use Rattle.std.proofs.Common.{subst, arith}
use Rattle.mixed_graph.specs.Vocabulary.{graph_of}
use Rattle.prob_expr.specs.Vocabulary.{masks_of}
use Rattle.identify.proofs.RightAnswers.{target_from}
use Rattle.surrogates.proofs.Around.{around_is_apart}
use Rattle.surrogates.proofs.Blocked.{stop_under_has_hedge}
use Rattle.surrogates.specs.Common.{around}
use Rattle.surrogates.specs.Tries.{IsStopTogether}
use Rattle.surrogates.proofs.RightAnswers.{block_shown}
use Rattle.surrogates.proofs.Together.{stops_alone}
use Rattle.surrogates.proofs.identifying.common_hedge.Goals as goal

pub common_stop-requires-clause-stopped : goal.common_stop-requires-clause-stopped
common_stop-requires-clause-stopped c = stops_alone (graph_of c.args.g.now)
    (masks_of c.args.experiments.now) c.requires.stop.split.districts c.args.small.bits c.args.big.bits c.requires.stop.stops

pub hedge_of-requires-clause-hedge : goal.hedge_of-requires-clause-hedge
hedge_of-requires-clause-hedge c =
    let g = graph_of c.args.g.now in
    let zs = masks_of c.args.experiments.now in
    let small = c.args.small.bits in
    let target = target_from g c.args.x.bits c.args.y.bits c.requires.x_within c.requires.y_within c.requires.apart c.requires.some (omega arith) in
    let together = subst (IsStopTogether g zs small) c.in-Some.is c.in-Ok.ensures in
    λ roots are. (stop_under_has_hedge g c.args.g.now.valid zs c.args.x.bits c.args.y.bits small c.args.big.bits roots target c.requires.stop are
    (around small zs) c.in-Some.common.bits (around_is_apart small zs) together).hedge

pub returns-in_ok-hedge-in-Some : goal.returns-in_ok-hedge-in-Some
returns-in_ok-hedge-in-Some c =
    let g = graph_of c.args.g.now in
    let zs = masks_of c.args.experiments.now in
    let target = target_from g c.args.x.bits c.args.y.bits c.requires.x_within c.requires.y_within c.requires.apart c.requires.some (omega arith) in
    let together = subst (IsStopTogether g zs c.args.small.bits) c.in-Some.is c.in-Ok.ensures in
    let is = c.in_ok-hedge-in-Some.ensures in
    block_shown g c.args.g.now.valid zs c.args.x.bits c.args.y.bits target c.args.small c.args.big c.in-Some.common c.requires.stop together
    c.in_ok-hedge-in-Some.hedge c.in_ok-hedge-in-Some.pair is.small is.big is.data is.hedge is.pair

pub returns-in-None : goal.returns-in-None
returns-in-None c = subst (IsStopTogether (graph_of c.args.g.now) (masks_of c.args.experiments.now) c.args.small.bits) c.in-None.is c.in-Ok.ensures
