use Rattle.std.proofs.Common.{◌≡◌, ◌+◌, drop, cond}
use Rattle.do_derivation.specs.View.{numbers_of}
use Rattle.do_derivation.specs.Shapes.{times_in, all_of}
use Rattle.do_derivation.proofs.product_moves.is_once.Given as goal

abbrev pub invariant-loop-group : goal.invariant-loop-group
invariant-loop-group l = cond l.found 1 0 + times_in l.i (all_of (numbers_of (drop l.group-index l.group-items)))
    ≡ times_in l.i (all_of (numbers_of l.group-items))
