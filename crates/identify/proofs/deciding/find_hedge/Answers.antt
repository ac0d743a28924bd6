use Rattle.std.proofs.Common.{arith}
use Rattle.mixed_graph.specs.Vocabulary.{graph_of}
use Rattle.hedge.specs.Vocabulary.{first_masks}
use Rattle.identification_theory.specs.Vocabulary.{IsTarget}
use Rattle.identify.proofs.Existing.{never_stopped, stopped_sets, with_models}
use Rattle.identify.proofs.RightAnswers.{target_from}
use Rattle.identify.proofs.deciding.find_hedge.Goals as goal
use Rattle.identify.proofs.deciding.find_hedge.Goals.{After-ancestors_outside-d}

target : (c : After-ancestors_outside-d) → IsTarget (graph_of c.args.g.now) c.args.x.bits c.args.y.bits
target c = target_from (graph_of c.args.g.now) c.args.x.bits c.args.y.bits c.requires.x_within c.requires.y_within c.requires.apart c.requires.some
    (omega arith)

pub hedge_between-requires : goal.hedge_between-requires
hedge_between-requires c =
    let g = graph_of c.args.g.now in
    stopped_sets g c.args.g.now.valid c.args.g.now.small c.args.x.bits c.args.y.bits (target (goal.at.hedge_between-requires c).After-ancestors_outside-d)
    c.requires.apart c.ancestors_outside-d.result.bits c.ancestors_outside-d.ensures
    (first_masks c.districts-parts.result.sets c.districts-parts.result.count) c.districts-parts.ensures.districts c.in-Some.stop.small.bits
    c.in-Some.stop.big.bits c.in-Some.ensures.stop

pub returns-in-None-clause-formula : goal.returns-in-None-clause-formula
returns-in-None-clause-formula c =
    let g = graph_of c.args.g.now in
    never_stopped g c.args.g.now.valid c.args.g.now.small c.args.x.bits c.args.y.bits
    (target (goal.at.returns-in-None-clause-formula c).After-ancestors_outside-d) c.requires.apart c.ancestors_outside-d.result.bits
    c.ancestors_outside-d.ensures (first_masks c.districts-parts.result.sets c.districts-parts.result.count) c.districts-parts.ensures.districts
    c.in-None.ensures.factors

pub returns-in-Some-clause-models : goal.returns-in-Some-clause-models
returns-in-Some-clause-models c =
    with_models (graph_of c.args.g.now) c.args.g.now.valid c.args.g.now.small c.args.x.bits c.args.y.bits
    (target (goal.at.returns-in-Some-clause-models c).After-ancestors_outside-d) c.requires.apart c.hedge_between.result c.hedge_between.ensures.hedge
