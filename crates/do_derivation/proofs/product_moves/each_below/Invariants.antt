use Rattle.std.proofs.Common.{◌≡◌, drop}
use Rattle.do_derivation.specs.View.{numbers_of}
use Rattle.do_derivation.specs.Shapes.{each_below, all_of}
use Rattle.do_derivation.proofs.product_moves.each_below.Given as goal

abbrev pub invariant-loop-group : goal.invariant-loop-group
invariant-loop-group l = each_below l.m (all_of (numbers_of (drop l.group-index l.group-items))) ≡ each_below l.m (all_of (numbers_of l.group-items))
