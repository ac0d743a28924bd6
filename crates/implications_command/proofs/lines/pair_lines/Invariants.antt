use Rattle.std.proofs.Common.{◌≡◌, take}
use Rattle.implications_command.specs.Lines.{pair_lines}
use Rattle.implications_command.proofs.lines.pair_lines.Given as goal

abbrev pub invariant-loop-i : goal.invariant-loop-i
invariant-loop-i l = l.text.items ≡ pair_lines l.names (take l.i-index l.list)
