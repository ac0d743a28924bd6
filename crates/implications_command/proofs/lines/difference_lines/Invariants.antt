use Rattle.std.proofs.Common.{◌≡◌, take}
use Rattle.std.specs.List.{flat_map}
use Rattle.implications_command.specs.Lines.{measured_lines}
use Rattle.implications_command.proofs.lines.difference_lines.Given as goal

abbrev pub invariant-loop-m : goal.invariant-loop-m
invariant-loop-m l = l.text.items ≡ flat_map (measured_lines l.names l.counts) (take l.m-index l.measured)
