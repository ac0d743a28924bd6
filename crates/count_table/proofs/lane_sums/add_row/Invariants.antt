use Rattle.std.proofs.Common.{ℕ, ◌≡◌, ◌≤◌, ◌-◌, length, List}
use Rattle.count_table.specs.LaneSums.{Adds}
use Rattle.count_table.proofs.lane_sums.add_row.Given as goal

pub record IsAdded (old now cells : List ℕ) (at from i inner : ℕ) : Type 0 where
  pub within : i ≤ inner
  pub long : length now ≡ length old
  pub adds : Adds old now cells at from i

abbrev pub invariant-eights : goal.invariant-eights
invariant-eights l = IsAdded l.fn.into l.into l.cells l.at l.from l.i l.inner

abbrev pub decreases-eights : goal.decreases-eights
decreases-eights l = l.inner - l.i

abbrev pub invariant-rest : goal.invariant-rest
invariant-rest l = IsAdded l.fn.into l.into l.cells l.at l.from l.i l.inner

abbrev pub decreases-rest : goal.decreases-rest
decreases-rest l = l.inner - l.i
