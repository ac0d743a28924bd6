use Rattle.std.proofs.Common.{◌≡◌}
use Rattle.adjust_command.proofs.set_lines.BareNames.of.Given as goal

abbrev pub invariant-loop-v : goal.invariant-loop-v
invariant-loop-v l = l.known.names.now ≡ l.names
