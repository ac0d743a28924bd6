use Rattle.std.proofs.Common.{◌≡◌, ◌++◌, drop, false}
use Rattle.natural_command.specs.Sentences.{parts_in}
use Rattle.natural_command.proofs.texts.push_parts.Given as goal

abbrev pub invariant-loop-part : goal.invariant-loop-part
invariant-loop-part l =
    l.out.items ++ parts_in l.notation l.later l.names l.x.bits (drop l.part-index l.part-items)
    ≡ l.fn.out.items ++ parts_in l.notation false l.names l.x.bits l.part-items
