use Rattle.std.proofs.Common.{◌≡◌, [], replicate}
use Rattle.count_rows.proofs.tally.Tally.empty.Given as goal

abbrev pub invariant-loop : goal.invariant-loop
invariant-loop l = l.levels.items ≡ replicate l.counter []
