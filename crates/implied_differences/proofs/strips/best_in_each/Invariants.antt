use Rattle.std.proofs.Common.{ℕ, ◌+◌, ◌≡◌, List, length}
use Rattle.implied_differences.specs.declared.candidates.Candidate.{Candidate}
use Rattle.implied_differences.specs.declared.layout.Block.{Block}
use Rattle.implied_differences.specs.declared.layout.Layout.{Layout}
use Rattle.implied_differences.specs.Layouts.{IsBase}
use Rattle.implied_differences.specs.Blocks.{IsBest}
use Rattle.implied_differences.proofs.strips.best_in_each.Given as goal

-- the best of the first k blocks and of what came before
pub record IsWalkedTo (cells : List ℕ) (l : Layout) (block next : Block) (columns : List ℕ) (so_far : Candidate) (k : ℕ) : Type 0 where
  pub long : length columns ≡ l.seconds
  pub number : next.number ≡ block.number + k
  pub base : IsBase l next
  pub best : IsBest cells l next.number 0 0 so_far

abbrev pub invariant-loop : goal.invariant-loop
invariant-loop l = IsWalkedTo l.table.cells.now l.table.layout.now l.block l.next l.columns l.best l.counter
