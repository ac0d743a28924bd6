use Rattle.std.proofs.Common.{arith}
use Rattle.mixed_graph.specs.Vocabulary.{has, graph_of}
use Rattle.mixed_graph.proofs.Members.{length-members-le}
use Rattle.counter_models.proofs.Lists.{low_links}
use Rattle.counter_models.proofs.pairs.build.Goals as goal

pub causes-requires : goal.causes-requires
causes-requires c = low_links (graph_of c.args.g.now) c.args.x.bits c.args.y.bits c.args.h.now c.args.g.now.small c.requires.holds

pub causes-requires-2 : goal.causes-requires-2
causes-requires-2 c = low_links (graph_of c.args.g.now) c.args.x.bits c.args.y.bits c.args.h.now c.args.g.now.small c.requires.holds

pub first_mechanisms-requires-clause-low : goal.first_mechanisms-requires-clause-low
first_mechanisms-requires-clause-low c = low_links (graph_of c.args.g.now) c.args.x.bits c.args.y.bits c.args.h.now c.args.g.now.small c.requires.holds

pub second_mechanisms-requires-clause-low : goal.second_mechanisms-requires-clause-low
second_mechanisms-requires-clause-low c = low_links (graph_of c.args.g.now) c.args.x.bits c.args.y.bits c.args.h.now c.args.g.now.small c.requires.holds

pub overflow_add-result : goal.overflow_add-result
overflow_add-result c = let s = length-members-le (has c.args.h.now.small.bits) 64 in let k =
    length-members-le (has c.carry_toward-carried.result.kept.bits) 64 in omega arith
