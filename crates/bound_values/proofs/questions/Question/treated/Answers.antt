use Rattle.std.proofs.Common.{◌||◌, ◌∙◌, ap}
use Rattle.mixed_graph.specs.Vocabulary.{has}
use Rattle.bound_values.proofs.questions.Question.treated.Goals as goal

pub returns : goal.returns
returns c v = c.union.ensures.members v ∙ ap (λ b. has c.args.self.x.bits v || b) (c.level.ensures.members v)
