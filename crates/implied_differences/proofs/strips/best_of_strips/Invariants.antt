use Rattle.std.proofs.Common.{ℕ, ◌-◌, ◌≡◌, ◌≤◌, List, length}
use Rattle.implied_differences.specs.declared.candidates.Candidate.{Candidate}
use Rattle.implied_differences.specs.declared.layout.Block.{Block}
use Rattle.implied_differences.specs.declared.layout.Layout.{Layout}
use Rattle.implied_differences.specs.Layouts.{IsBase}
use Rattle.implied_differences.specs.Blocks.{IsBest}
use Rattle.implied_differences.proofs.strips.best_of_strips.Given as goal

-- the best of the blocks before this one
pub record IsWalked (cells : List ℕ) (l : Layout) (block : Block) (places totals along over others : List ℕ) (so_far : Candidate) : Type 0 where
  pub begins : length places ≡ 64
  pub sums : length totals ≡ 64
  pub rows : length along ≡ 64
  pub across : length over ≡ 64
  pub columns : length others ≡ l.seconds
  pub within : block.number ≤ l.count
  pub base : IsBase l block
  pub best : IsBest cells l block.number 0 0 so_far

abbrev pub invariant-strips : goal.invariant-strips
invariant-strips l = IsWalked l.table.cells.now l.table.layout.now l.block l.begins l.sums l.rows l.across l.columns l.best

abbrev pub decreases-strips : goal.decreases-strips
decreases-strips l = l.table.layout.now.count - l.block.number
