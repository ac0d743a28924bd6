use Rattle.std.proofs.Common.{arith}
use Rattle.mixed_graph.specs.Vocabulary.{has}
use Rattle.mixed_graph.proofs.Members.{length-members-le}
use Rattle.counter_models.proofs.parts.small_cause_of.Goals as goal

pub overflow_add-result : goal.overflow_add-result
overflow_add-result c = let l = c.args.h.now.links.in_range in let s = length-members-le (has c.args.h.now.small.bits) c.args.v in omega arith
