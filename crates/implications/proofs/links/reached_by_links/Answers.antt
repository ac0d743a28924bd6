use Rattle.std.proofs.Common.{◌∙◌, arith, ap, ◌&&◌, not}
use Rattle.mixed_graph.specs.Vocabulary.{has, graph_of}
use Rattle.implications.specs.Links.{is_link}
use Rattle.mixed_graph.proofs.Spreading.{Spread, spreading_none, spreading_more, spreading_smaller, spread_all}
use Rattle.implications.proofs.links.reached_by_links.Goals as goal
use Rattle.implications.proofs.links.reached_by_links.Goals.{After-difference-front}

spread_of : (c : After-difference-front) → Spread (is_link (graph_of c.args.g.now) (has c.args.w.bits)) (has c.args.within.bits)
    c.steps.found.bits c.steps.front.bits c.linked.result.bits c.union-found.result.bits c.difference-front.result.bits
spread_of c = record {
  near_is = c.linked.ensures;
  found_is = c.union-found.ensures.members;
  front_is = λ u. c.difference-front.ensures.members u ∙ ap (λ t. t && not (has c.union-found.result.bits u)) (c.intersection.ensures.members u);
}

pub steps-init : goal.steps-init
steps-init c = (
  spreading_none (is_link (graph_of c.args.g.now) (has c.args.w.bits)) (has c.args.from.bits) (has c.args.within.bits)
      c.empty-found.result.bits c.intersection-front.result.bits c.empty-found.ensures.members c.intersection-front.ensures.members,
  omega arith,
  omega arith,
)

pub steps-preserved : goal.steps-preserved
steps-preserved c = (
  spreading_more (is_link (graph_of c.args.g.now) (has c.args.w.bits)) (has c.args.from.bits) (has c.args.within.bits)
      c.steps.found.bits c.steps.front.bits c.linked.result.bits c.union-found.result.bits c.difference-front.result.bits
      (spread_of (goal.at.steps-preserved c).After-difference-front) c.steps.invariant.0,
  omega arith,
  omega arith,
)

pub steps-smaller : goal.steps-smaller
steps-smaller c = spreading_smaller (is_link (graph_of c.args.g.now) (has c.args.w.bits)) (has c.args.from.bits) (has c.args.within.bits)
    c.steps.found.bits c.steps.front.bits c.linked.result.bits c.union-found.result.bits c.difference-front.result.bits
    (spread_of (goal.at.steps-smaller c).After-difference-front) c.steps.invariant.0
    (λ z. absurd (let t = c.is_empty.ensures.none.1 z in let f = c.steps-test.true in cc)) (omega arith) (omega arith)

pub returns : goal.returns
returns c = λ v. (
  c.steps.invariant.0.sound v,
  spread_all (is_link (graph_of c.args.g.now) (has c.args.w.bits)) (has c.args.from.bits) (has c.args.within.bits) c.steps.found.bits c.steps.front.bits
      c.steps.invariant.0 (c.is_empty.ensures.none.0 c.steps-test.false) v,
)
