use Rattle.std.proofs.Common.{◌≡◌, ◌-◌, true, take, drop}
use Rattle.std.specs.List.{list_all}
use Rattle.count_rows.specs.Reader.{is_plain}
use Rattle.count_rows.proofs.lines.plain_end.Given as goal

abbrev pub invariant-loop-at : goal.invariant-loop-at
invariant-loop-at l = list_all is_plain (take (l.at - l.from) (drop l.from l.text)) ≡ true
