use Rattle.std.proofs.Common.{◌≡◌, length}
use Rattle.count_cases.proofs.times.cells.Given as goal

abbrev pub invariant-loop-i : goal.invariant-loop-i
invariant-loop-i l = length l.codes.items ≡ l.i
