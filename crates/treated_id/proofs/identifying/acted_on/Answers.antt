use Rattle.std.proofs.Common.{ap, ◌∙◌, ◌&&◌}
use Rattle.mixed_graph.specs.Vocabulary.{has, graph_of}
use Rattle.treated_id.proofs.After.{after_is, none_after}
use Rattle.treated_id.proofs.identifying.acted_on.Goals as goal
use Rattle.treated_id.proofs.identifying.acted_on.Goals.{After-intersection}

pub returns-clause-after : goal.returns-clause-after
returns-clause-after c = after_is (graph_of c.args.g.now) c.args.g.now.valid c.args.x.bits c.args.z.bits c.joined-children.result.bits
    c.descendants.result.bits c.intersection.result.bits c.joined-children.ensures c.descendants.ensures
    (λ v. c.intersection.ensures.members v ∙ ap (λ m. has m v && has c.descendants.result.bits v) c.union.ensures.mask)

pub returns-clause-none : goal.returns-clause-none
returns-clause-none c = none_after (graph_of c.args.g.now) c.args.g.now.valid c.args.x.bits c.args.z.bits c.joined-children.result.bits
    c.descendants.result.bits c.intersection.result.bits c.joined-children.ensures c.descendants.ensures
    (λ v. c.intersection.ensures.members v ∙ ap (λ m. has m v && has c.descendants.result.bits v) c.union.ensures.mask)
