use Rattle.std.proofs.Common.{◌≡◌, drop}
use Rattle.prob_expr.specs.Vocabulary.{views}
use Rattle.do_derivation.specs.Shapes.{picked, appended}
use Rattle.do_derivation.proofs.product_moves.picked.Given as goal

abbrev pub invariant-loop-i : goal.invariant-loop-i
invariant-loop-i l = appended (views l.made.items) (picked (views l.factors.items) (drop l.i-index l.i-items)) ≡ picked (views l.factors.items) l.i-items
