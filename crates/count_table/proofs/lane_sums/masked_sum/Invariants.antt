use Rattle.std.proofs.Common.{ℕ, ◌≡◌, ◌≤◌, ◌-◌, length, List}
use Rattle.count_table.specs.LaneSums.{matched_sum}
use Rattle.count_table.proofs.lane_sums.masked_sum.Given as goal

pub record IsSoFar (mask want at sum : ℕ) (counts codes : List ℕ) : Type 0 where
  pub within : at ≤ length counts
  pub total : sum ≡ matched_sum mask want at counts codes

abbrev pub invariant-eights : goal.invariant-eights
invariant-eights l = IsSoFar l.mask l.want l.at l.total l.counts l.codes

abbrev pub decreases-eights : goal.decreases-eights
decreases-eights l = length l.counts - l.at

abbrev pub invariant-rest : goal.invariant-rest
invariant-rest l = IsSoFar l.mask l.want l.at l.total l.counts l.codes

abbrev pub decreases-rest : goal.decreases-rest
decreases-rest l = length l.counts - l.at
