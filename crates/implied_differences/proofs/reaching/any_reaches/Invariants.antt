use Rattle.std.proofs.Common.{ℕ, ◌+◌, ◌*◌, ◌<◌, get_or}
use Rattle.std.specs.Int.{abs_diff}
use Rattle.implied_differences.proofs.reaching.any_reaches.Given as goal

abbrev pub invariant-loop-j : goal.invariant-loop-j
invariant-loop-j l = (k : ℕ) → k < l.j → abs_diff (get_or l.cells (get_or l.strip.begins.now k 0 + l.offset) 0 * get_or l.strip.sums.now k 0)
    (get_or l.rows k 0 * get_or l.columns k 0) < l.limit
