use Rattle.std.proofs.Common.{◌≡◌, ◌++◌, drop}
use Rattle.caller_memory.specs.Kept.{lines_of}
use Rattle.caller_memory.proofs.kept.naming.lines.Given as goal

abbrev pub invariant-loop-v : goal.invariant-loop-v
invariant-loop-v l = l.text.items ++ lines_of (drop l.v l.names) ≡ lines_of l.names
