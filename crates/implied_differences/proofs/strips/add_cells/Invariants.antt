use Rattle.std.proofs.Common.{ℕ, ◌+◌, ◌≡◌, ◌<◌, ◌≤◌, List, length, get_or}
use Rattle.implied_differences.proofs.strips.add_cells.Given as goal

-- the first k sums have grown
pub record IsAdded (old now cells begins : List ℕ) (offset k : ℕ) : Type 0 where
  pub long : length now ≡ length old
  pub done : (j : ℕ) → j < k → get_or now j 0 ≡ get_or old j 0 + get_or cells (get_or begins j 0 + offset) 0
  pub rest : (j : ℕ) → k ≤ j → get_or now j 0 ≡ get_or old j 0

abbrev pub invariant-loop-j : goal.invariant-loop-j
invariant-loop-j l = IsAdded l.fn.sums l.sums l.cells l.begins l.offset l.j
