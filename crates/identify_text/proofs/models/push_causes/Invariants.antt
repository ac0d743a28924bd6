use Rattle.std.proofs.Common.{◌≡◌, ◌++◌, drop}
use Rattle.identify_text.specs.ModelLines.{cause_lines}
use Rattle.identify_text.proofs.models.push_causes.Given as goal

abbrev pub invariant-loop-cause : goal.invariant-loop-cause
invariant-loop-cause l = record {
  index : l.j ≡ l.cause-index;
  told : l.out.items ++ cause_lines l.names l.j (drop l.cause-index l.causes) ≡ l.fn.out.items ++ cause_lines l.names 0 l.causes;
}
