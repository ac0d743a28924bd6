use Rattle.std.proofs.Common.{◌+◌, ◌-◌, length}
use Rattle.count_rows.proofs.Splitting.{AreRead}
use Rattle.count_rows.proofs.lines.split.Given as goal

abbrev pub invariant-loop-at : goal.invariant-loop-at
invariant-loop-at l = AreRead l.text l.ends.items l.at

abbrev pub decreases-loop-at : goal.decreases-loop-at
decreases-loop-at l = length l.text + 1 - l.at
