use Rattle.std.proofs.Common.{◌≡◌, ◌++◌, take}
use Rattle.std.specs.List.{flat_map}
use Rattle.natural_command.specs.Sentences.{part_lines}
use Rattle.natural_command.proofs.texts.push_lines.Given as goal

abbrev pub invariant-loop-part : goal.invariant-loop-part
invariant-loop-part l = l.out.items ≡ l.fn.out.items ++ flat_map (part_lines l.notation l.names l.x.bits) (take l.part-index l.parts)
