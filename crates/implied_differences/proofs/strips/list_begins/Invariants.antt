use Rattle.std.proofs.Common.{ℕ, ◌+◌, ◌≡◌, ◌<◌, List, length, get_or}
use Rattle.implied_differences.specs.declared.layout.Block.{Block}
use Rattle.implied_differences.specs.declared.layout.Layout.{Layout}
use Rattle.implied_differences.specs.Layouts.{base_of, IsBase}
use Rattle.implied_differences.proofs.strips.list_begins.Given as goal

-- the first k blocks are listed, and the next one is at hand
pub record IsListedTo (l : Layout) (block next : Block) (old begins : List ℕ) (k : ℕ) : Type 0 where
  pub long : length begins ≡ length old
  pub each : (j : ℕ) → j < k → get_or begins j 0 ≡ base_of l (block.number + j)
  pub number : next.number ≡ block.number + k
  pub base : IsBase l next

abbrev pub invariant-loop-j : goal.invariant-loop-j
invariant-loop-j l = IsListedTo l.l l.fn.block l.next l.fn.begins l.begins l.j
