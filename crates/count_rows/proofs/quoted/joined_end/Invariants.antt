use Rattle.std.proofs.Common.{◌≡◌, ◌-◌, true, take, drop}
use Rattle.std.specs.List.{list_all}
use Rattle.count_rows.specs.Quoted.{joins}
use Rattle.count_rows.proofs.quoted.joined_end.Given as goal

abbrev pub invariant-loop-at : goal.invariant-loop-at
invariant-loop-at l = list_all (joins l.place) (take (l.at - l.from) (drop l.from l.text)) ≡ true
