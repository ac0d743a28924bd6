use Rattle.std.proofs.Common.{◌≡◌, ◌+◌, drop, cond}
use Rattle.do_derivation.specs.Shapes.{times_in}
use Rattle.do_derivation.proofs.product_moves.found_once.Given as goal

abbrev pub invariant-loop-j : goal.invariant-loop-j
invariant-loop-j l = cond l.now 1 0 + times_in l.i (drop l.j-index l.j-items) ≡ cond l.fn.found 1 0 + times_in l.i l.j-items
