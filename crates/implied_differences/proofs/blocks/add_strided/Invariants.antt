use Rattle.std.proofs.Common.{ℕ, ◌+◌, ◌*◌, ◌≡◌, ◌<◌, ◌≤◌, List, length, get_or}
use Rattle.implied_differences.proofs.blocks.add_strided.Given as goal

-- the first k sums have grown
pub record IsAdded (old now cells : List ℕ) (begin step k : ℕ) : Type 0 where
  pub long : length now ≡ length old
  pub done : (j : ℕ) → j < k → get_or now j 0 ≡ get_or old j 0 + get_or cells (begin + j * step) 0
  pub rest : (j : ℕ) → k ≤ j → get_or now j 0 ≡ get_or old j 0

abbrev pub invariant-loop-k : goal.invariant-loop-k
invariant-loop-k l = IsAdded l.fn.sums l.sums l.cells l.begin l.step l.k
