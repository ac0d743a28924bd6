use Rattle.std.proofs.Common.{◌≡◌, drop}
use Rattle.do_derivation.specs.Shapes.{each_below}
use Rattle.do_derivation.proofs.product_moves.are_below.Given as goal

abbrev pub invariant-loop-j : goal.invariant-loop-j
invariant-loop-j l = each_below l.m (drop l.j-index l.j-items) ≡ each_below l.m l.j-items
