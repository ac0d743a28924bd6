use Rattle.std.proofs.Common.{ℕ, ◌+◌, ◌≡◌, ◌<◌, List, length, get_or}
use Rattle.implied_differences.specs.declared.layout.Line.{Line}
use Rattle.implied_differences.specs.Blocks.{strided}
use Rattle.implied_differences.proofs.strips.add_line.Given as goal

-- the first k cells of the line are added
pub record IsAddedTo (old now cells begins : List ℕ) (line : Line) (width k : ℕ) : Type 0 where
  pub long : length now ≡ length old
  pub each : (j : ℕ) → j < width → get_or now j 0 ≡ get_or old j 0 + strided cells (get_or begins j 0 + line.offset) line.step k

abbrev pub invariant-loop-k : goal.invariant-loop-k
invariant-loop-k l = IsAddedTo l.fn.sums l.sums l.cells l.begins l.line l.width l.k
