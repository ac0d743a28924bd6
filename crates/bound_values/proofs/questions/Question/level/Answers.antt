use Rattle.std.proofs.Common.{◌||◌, ◌∙◌, ap}
use Rattle.mixed_graph.specs.Vocabulary.{has, union}
use Rattle.bound_values.proofs.questions.Question.level.Goals as goal

pub returns-clause-mask : goal.returns-clause-mask
returns-clause-mask c = c.union.ensures.mask ∙ ap (union c.args.self.instruments.bits) c.fixed.ensures.mask

pub returns-clause-members : goal.returns-clause-members
returns-clause-members c v = c.union.ensures.members v ∙ ap (λ b. has c.args.self.instruments.bits v || b) (c.fixed.ensures.members v)
