use Rattle.std.proofs.Common.{◌≡◌, take}
use Rattle.std.specs.List.{flat_map}
use Rattle.bounds_command.specs.Lines.{bounds_line}
use Rattle.bounds_command.proofs.lines.lines_text.Given as goal

abbrev pub invariant-loop-b : goal.invariant-loop-b
invariant-loop-b l = l.text.items ≡ flat_map (bounds_line l.names l.counts l.question) (take l.b-index l.bounds)
