use Rattle.std.proofs.Common.{◌<◌, sym, subst, ap, ◌∙◌, arith}
use Rattle.mixed_graph.specs.Vocabulary.{graph_of, minus}
use Rattle.conditional_id.proofs.Found.{target_with}
use Rattle.conditional_id.proofs.Moving.{move_smaller, moving_all, moving_more, moving_none}
use Rattle.conditional_id.proofs.turning.turned.Goals as goal

pub moves-init : goal.moves-init
moves-init c = moving_none (graph_of c.args.g.now) c.args.y.bits c.args.x.bits c.args.given.bits
    (target_with (graph_of c.args.g.now) c.args.x.bits c.args.y.bits c.args.given.bits c.requires.sets c.requires.some (omega arith))
    c.new-steps.result.items c.new-steps.ensures.items

pub lowest_turning-requires-clause-sets : goal.lowest_turning-requires-clause-sets
lowest_turning-requires-clause-sets c = c.moves.invariant.target.sets

pub one-alone-requires : goal.one-alone-requires
one-alone-requires c =
    let low = c.moves.invariant.target.sets.w_within c.in-Some.v c.in-Some.ensures.member in
    let few = c.args.g.now.small in
    omega (arith, low, few)

pub moves-smaller : goal.moves-smaller
moves-smaller c =
    let z = c.moves.left.bits in
    subst (λ w. w < z) (sym (c.difference-left.ensures.mask ∙ ap (minus z) c.one-alone.ensures.mask)) (move_smaller z c.in-Some.v c.in-Some.ensures.member)

pub moves-preserved : goal.moves-preserved
moves-preserved c = moving_more (graph_of c.args.g.now) c.args.y.bits c.args.x.bits c.args.given.bits c.moves.doing.bits c.moves.left.bits c.in-Some.v
    c.moves.steps.items c.one-alone.result c.one-alone.ensures.mask
    c.moves.invariant c.in-Some.ensures c.union-doing.result.bits c.difference-left.result.bits _ c.union-doing.ensures.mask c.difference-left.ensures.mask
    c.in_ok-push.ensures.items

pub returns : goal.returns
returns c = moving_all (graph_of c.args.g.now) c.args.y.bits c.args.x.bits c.args.given.bits _ c.moves.invariant c.in_default.ensures
