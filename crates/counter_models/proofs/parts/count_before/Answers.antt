use Rattle.std.proofs.Common.{◌∙◌, ap, ◌&&◌, arith}
use Rattle.mixed_graph.specs.Vocabulary.{has}
use Rattle.counter_models.proofs.Lists.{count-cut}
use Rattle.counter_models.proofs.parts.count_before.Goals as goal

pub returns : goal.returns
returns c = c.count.ensures ∙ count-cut (has c.args.set.bits) (has c.intersection.result.bits) c.args.v 64
    (λ u. c.intersection.ensures.members u ∙ ap (λ b. has c.args.set.bits u && b) (c.below.ensures.members u)) (omega arith)
