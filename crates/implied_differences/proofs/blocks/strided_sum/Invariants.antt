use Rattle.std.proofs.Common.{◌≡◌}
use Rattle.implied_differences.specs.Blocks.{strided}
use Rattle.implied_differences.proofs.blocks.strided_sum.Given as goal

abbrev pub invariant-loop-k : goal.invariant-loop-k
invariant-loop-k l = l.sum ≡ strided l.cells l.begin l.step l.k
