use Rattle.std.proofs.Common.{◌||◌, ◌∙◌, ap}
use Rattle.mixed_graph.specs.Vocabulary.{has, union}
use Rattle.bound_values.proofs.questions.Question.joint.Goals as goal

pub returns-clause-mask : goal.returns-clause-mask
returns-clause-mask c = c.union-2.ensures.mask ∙ ap (union c.args.self.x.bits) (c.union.ensures.mask ∙ ap (union c.args.self.y.bits) c.level.ensures.mask)

pub returns-clause-members : goal.returns-clause-members
returns-clause-members c v = c.union-2.ensures.members v ∙ ap (λ b. has c.args.self.x.bits v || b)
    (c.union.ensures.members v ∙ ap (λ b. has c.args.self.y.bits v || b) (c.level.ensures.members v))
