use Rattle.std.proofs.Common.{◌≡◌, ◌++◌}
use Rattle.mixed_graph.specs.Vocabulary.{has, members_below}
use Rattle.evaluate_command.proofs.cells.push_members.Given as goal

abbrev pub invariant-loop-v : goal.invariant-loop-v
invariant-loop-v l = l.out.items ≡ l.fn.out.items ++ members_below (has l.fn.set.bits) l.v
