use Rattle.std.proofs.Common.{arith}
use Rattle.mixed_graph.specs.Vocabulary.{has}
use Rattle.mixed_graph.proofs.Members.{length-members-le}
use Rattle.primed_questions.proofs.NameCounts.{counted_names}
use Rattle.primed_questions.proofs.counting.are_too_many.Goals as goal

pub overflow_add-result : goal.overflow_add-result
overflow_add-result c =
    let few = c.args.g.now.small in let most = length-members-le (has c.args.x.bits) 64 in let count = c.count.ensures in
    omega (arith, few, most, count)

pub returns-clause-many : goal.returns-clause-many
returns-clause-many c e =
    let count = c.count.ensures in let all = counted_names c.args.g.now.n c.args.x.bits c.args.g.now.small c.requires in grind (arith, e, count, all)

pub returns-clause-few : goal.returns-clause-few
returns-clause-few c e =
    let count = c.count.ensures in let all = counted_names c.args.g.now.n c.args.x.bits c.args.g.now.small c.requires in grind (arith, e, count, all)
