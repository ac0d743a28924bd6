use Rattle.std.proofs.Common.{ℕ, ◌≡◌, ◌<◌, List, length, get_or}
use Rattle.count_table.specs.Vocabulary.{sum_below}
use Rattle.implied_differences.specs.declared.layout.Layout.{Layout}
use Rattle.implied_differences.specs.Blocks.{column_at}
use Rattle.implied_differences.proofs.strips.sum_blocks.Given as goal

-- the first y columns are added
pub record AreSummedTo (old now cells : List ℕ) (l : Layout) (begins : List ℕ) (width y : ℕ) : Type 0 where
  pub long : length now ≡ length old
  pub each : (j : ℕ) → j < width → get_or now j 0 ≡ sum_below y (λ z. column_at cells l (get_or begins j 0) z)

abbrev pub invariant-loop-y : goal.invariant-loop-y
invariant-loop-y l = AreSummedTo l.fn.sums l.sums l.table.cells.now l.table.layout.now l.begins l.width l.y
