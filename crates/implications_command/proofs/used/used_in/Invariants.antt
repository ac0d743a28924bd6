use Rattle.std.proofs.Common.{◌≡◌, drop}
use Rattle.mixed_graph.specs.Vocabulary.{union}
use Rattle.implications_command.specs.Used.{used_in}
use Rattle.implications_command.proofs.used.used_in.Given as goal

abbrev pub invariant-loop-i : goal.invariant-loop-i
invariant-loop-i l = union l.all.bits (used_in (drop l.i-index l.list)) ≡ used_in l.list
