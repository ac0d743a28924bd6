use Rattle.std.proofs.Common.{◌≡◌, ◌++◌, map}
use Rattle.mixed_graph.specs.Vocabulary.{has, members_below}
use Rattle.paired_values.proofs.axes.push_own.Given as goal

abbrev pub invariant-loop-v : goal.invariant-loop-v
invariant-loop-v l = l.out.items ≡ l.fn.out.items ++ map (λ v. record { vertex = v; name = v }) (members_below (has l.fn.set.bits) l.v)
