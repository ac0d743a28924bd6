use Rattle.std.proofs.Common.{◌≡◌, ◌<◌, ◌^◌, sum, take}
use Rattle.count_cases.proofs.lanes.is_summable.Given as goal

abbrev pub invariant-loop-number : goal.invariant-loop-number
invariant-loop-number l = (l.total < 2 ^ 64) × (l.total ≡ sum (take l.number-index l.numbers))
