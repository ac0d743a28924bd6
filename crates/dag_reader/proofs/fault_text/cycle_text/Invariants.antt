use Rattle.std.proofs.Common.{◌≡◌, ◌++◌, drop}
use Rattle.dag_reader.specs.FaultTexts.{spaced}
use Rattle.dag_reader.proofs.fault_text.cycle_text.Given as goal

abbrev pub invariant-loop-name : goal.invariant-loop-name
invariant-loop-name l = l.text.items ++ spaced (drop l.name-index l.names) ≡ l.initial.text.items ++ spaced l.names
