use Rattle.std.proofs.Common.{◌≡◌, ◌++◌, map, drop}
use Rattle.identify_text.specs.ModelLines.{added, cause_text}
use Rattle.identify_text.proofs.parts.add_causes.Given as goal

abbrev pub invariant-loop-j : goal.invariant-loop-j
invariant-loop-j l = l.terms.items ++ added (map cause_text (drop l.j-index l.causes)) ≡ l.fn.terms.items ++ added (map cause_text l.causes)
