use Rattle.std.proofs.Common.{◌≡◌, ◌++◌, drop}
use Rattle.steps_command.specs.Texts.{parts_text}
use Rattle.steps_command.proofs.texts.push_parts.Given as goal

abbrev pub invariant-loop-part : goal.invariant-loop-part
invariant-loop-part l = record { told : l.out.items ++ parts_text l.names (drop l.part-index l.parts) ≡ l.fn.out.items ++ parts_text l.names l.parts }
