use Rattle.std.proofs.Common.{◌+◌, ap, ◌∙◌, ◌&&◌, arith}
use Rattle.mixed_graph.specs.Vocabulary.{has}
use Rattle.mixed_graph.proofs.Members.{length-members-le}
use Rattle.treated_id.proofs.NameSets.{counted}
use Rattle.natural_command.proofs.second.behind.Goals as goal

pub overflow_add-result : goal.overflow_add-result
overflow_add-result c =
    let few = c.requires.few in let most = length-members-le (has c.intersection.result.bits) 64 in let count = c.count.ensures in omega (arith, few, most, count)

pub returns : goal.returns
returns c = ap (λ k. c.args.n + k) (c.count.ensures ∙ counted c.args.x.bits c.args.v c.intersection.result.bits
    (let l = c.requires.below in let f = c.requires.few in omega (arith, l, f))
    (λ u. c.intersection.ensures.members u ∙ ap (λ b. has c.args.x.bits u && b) (c.below.ensures.members u)))
