use Rattle.std.proofs.Common.{ℕ, ◌≡◌, ◌<◌, List, length}
use Rattle.implied_differences.specs.declared.candidates.Candidate.{Candidate}
use Rattle.implied_differences.specs.declared.layout.Layout.{Layout}
use Rattle.implied_differences.specs.Blocks.{IsPassedAt}
use Rattle.implied_differences.proofs.reaching.row_reaches.Given as goal

-- the first k levels of b are passed
pub record ArePassedTo (cells : List ℕ) (l : Layout) (begins : List ℕ) (width w x : ℕ) (c : Candidate) (old now : List ℕ) (k : ℕ) : Type 0 where
  pub long : length now ≡ length old
  pub each : (y : ℕ) → y < k → IsPassedAt cells l begins width w x y c

abbrev pub invariant-loop-y : goal.invariant-loop-y
invariant-loop-y l = ArePassedTo l.table.cells.now l.table.layout.now l.strip.begins.now l.strip.width l.strip.first.number l.x l.before l.fn.columns
    l.columns l.y
