use Rattle.std.proofs.Common.{◌≡◌}
use Rattle.mixed_graph.specs.Bits.{has, members_below}
use Rattle.mixed_graph.proofs.sets.VSet.members.Given as goal

abbrev pub invariant-loop-v : goal.invariant-loop-v
invariant-loop-v l = l.list.items ≡ members_below (has l.fn.self.bits) l.v
