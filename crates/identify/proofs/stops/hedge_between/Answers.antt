use Rattle.mixed_graph.proofs.Masks.{positive_from_has}
use Rattle.mixed_graph.specs.Vocabulary.{graph_of}
use Rattle.hedge.specs.Vocabulary.{AreSetsOfHedge}
use Rattle.identify.proofs.HedgeData.{hedge_from}
use Rattle.identify.proofs.stops.hedge_between.Goals as goal
use Rattle.identify.proofs.stops.hedge_between.Goals.{After-roots_of-roots}

-- the sets of the hedge
shape : (c : After-roots_of-roots) → AreSetsOfHedge (graph_of c.args.g.now)
    c.args.x.bits c.args.y.bits c.args.big.bits c.args.small.bits c.roots_of-roots.result.bits
shape c = c.requires c.roots_of-roots.result.bits c.roots_of-roots.ensures

pub hedge_at-requires-clause-within : goal.hedge_at-requires-clause-within
hedge_at-requires-clause-within c = (shape (goal.at.hedge_at-requires-clause-within c).After-roots_of-roots).low

pub hedge_at-requires-clause-some : goal.hedge_at-requires-clause-some
hedge_at-requires-clause-some c = let r = (shape (goal.at.hedge_at-requires-clause-some c).After-roots_of-roots).rooted in
    positive_from_has c.args.small.bits r.vertex r.in_second

pub hedge_at-requires-clause-inside : goal.hedge_at-requires-clause-inside
hedge_at-requires-clause-inside c = (shape (goal.at.hedge_at-requires-clause-inside c).After-roots_of-roots).small_inside

pub hedge_at-requires-clause-small_joined : goal.hedge_at-requires-clause-small_joined
hedge_at-requires-clause-small_joined c = (shape (goal.at.hedge_at-requires-clause-small_joined c).After-roots_of-roots).small_joined

pub hedge_at-requires-clause-big_joined : goal.hedge_at-requires-clause-big_joined
hedge_at-requires-clause-big_joined c = (shape (goal.at.hedge_at-requires-clause-big_joined c).After-roots_of-roots).big_joined

pub returns-clause-hedge : goal.returns-clause-hedge
returns-clause-hedge c = hedge_from (graph_of c.args.g.now) c.args.g.now.valid c.args.g.now.small c.args.x.bits c.args.y.bits c.args.small c.args.big
    c.roots_of-roots.result
    (shape (goal.at.returns-clause-hedge c).After-roots_of-roots) c.hedge_at.result c.hedge_at.ensures.big c.hedge_at.ensures.small
    c.hedge_at.ensures.roots c.hedge_at.ensures.data
