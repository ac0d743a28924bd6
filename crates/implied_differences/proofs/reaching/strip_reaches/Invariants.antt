use Rattle.std.proofs.Common.{ℕ, ◌≡◌, ◌<◌, List, length}
use Rattle.implied_differences.specs.declared.candidates.Candidate.{Candidate}
use Rattle.implied_differences.specs.declared.layout.Layout.{Layout}
use Rattle.implied_differences.specs.Blocks.{IsPassedAt}
use Rattle.implied_differences.proofs.reaching.strip_reaches.Given as goal

-- the first k levels of a are passed
pub record ArePassedTo (cells : List ℕ) (l : Layout) (begins : List ℕ) (width w : ℕ) (c : Candidate) (old_rows rows old_columns columns : List ℕ)
    (k : ℕ) : Type 0 where
  pub long_rows : length rows ≡ length old_rows
  pub long_columns : length columns ≡ length old_columns
  pub each : (x : ℕ) → x < k → (y : ℕ) → y < l.seconds → IsPassedAt cells l begins width w x y c

abbrev pub invariant-loop-x : goal.invariant-loop-x
invariant-loop-x l = ArePassedTo l.table.cells.now l.table.layout.now l.strip.begins.now l.strip.width l.strip.first.number l.before l.fn.rows l.rows
    l.fn.columns l.columns l.x
