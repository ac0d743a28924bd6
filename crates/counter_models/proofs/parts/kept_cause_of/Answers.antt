use Rattle.std.proofs.Common.{arith}
use Rattle.mixed_graph.specs.Vocabulary.{has}
use Rattle.mixed_graph.proofs.Members.{length-members-le}
use Rattle.counter_models.proofs.parts.kept_cause_of.Goals as goal

pub overflow_add-result : goal.overflow_add-result
overflow_add-result c = let l = c.args.h.now.links.in_range in let s = length-members-le (has c.args.h.now.small.bits) 64 in omega arith

pub overflow_add-result-2 : goal.overflow_add-result-2
overflow_add-result-2 c = let l = c.args.h.now.links.in_range in let s = length-members-le (has c.args.h.now.small.bits) 64 in let k =
    length-members-le (has c.args.kept.bits) c.args.v in omega arith
