use Rattle.std.proofs.Common.{◌≡◌, ◌++◌, drop}
use Rattle.adjust_command.specs.Lines.{set_lines}
use Rattle.adjust_command.proofs.set_lines.push_sets.Given as goal

abbrev pub invariant-loop-set : goal.invariant-loop-set
invariant-loop-set l = record { told : l.out.items ++ set_lines l.names (drop l.set-index l.sets) ≡ l.fn.out.items ++ set_lines l.names l.sets }
