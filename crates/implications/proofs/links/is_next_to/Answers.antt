use Rattle.std.proofs.Common.{◌≡◌, ℕ, ◌&&◌, ◌||◌, ◌==◌, ◌∙◌, ap, arith}
use Rattle.mixed_graph.specs.Vocabulary.{has, graph_of}
use Rattle.implications.proofs.LinkLaws.{next_on, away_on}
use Rattle.implications.proofs.links.is_next_to.Goals as goal
use Rattle.implications.proofs.links.is_next_to.Goals.{After-is_empty}

near_is : (c : After-is_empty) → (u : ℕ) → has c.intersection-near.result.bits u
    ≡ (((graph_of c.args.g.now).arrow c.args.v u || (u == c.args.v)) && has c.args.side.bits u)
near_is c u = c.intersection-near.ensures.members u ∙ ap (λ t. t && has c.args.side.bits u)
    (c.union.ensures.members u ∙ (let a = c.children.ensures.members u in let b = c.one.ensures.members u in cc))

pub returns-clause-next : goal.returns-clause-next
returns-clause-next c = next_on (graph_of c.args.g.now) (has c.args.side.bits) c.args.v c.intersection-near.result.bits
    (near_is (goal.at.returns-clause-next c).After-is_empty) c.is_empty.result c.is_empty.ensures.none (omega arith)

pub returns-clause-away : goal.returns-clause-away
returns-clause-away c = away_on (graph_of c.args.g.now) (has c.args.side.bits) c.args.v c.intersection-near.result.bits
    (near_is (goal.at.returns-clause-away c).After-is_empty) c.is_empty.result c.is_empty.ensures.none
