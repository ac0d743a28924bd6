use Rattle.std.proofs.Common.{ℕ, ◌<◌, ◌≤◌, List, get_or}
use Rattle.implied_differences.proofs.strips.greatest.Given as goal

-- the greatest of the first k
pub record IsGreatestTo (sums : List ℕ) (width most k : ℕ) : Type 0 where
  pub each : (j : ℕ) → j < k → get_or sums j 0 ≤ most
  pub least : (m : ℕ) → ((j : ℕ) → j < width → get_or sums j 0 ≤ m) → most ≤ m

abbrev pub invariant-loop-j : goal.invariant-loop-j
invariant-loop-j l = IsGreatestTo l.sums l.width l.most l.j
