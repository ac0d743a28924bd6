use Rattle.std.proofs.Common.{◌≡◌, drop}
use Rattle.prob_expr.specs.Vocabulary.{views}
use Rattle.do_derivation.specs.Shapes.{gathered}
use Rattle.do_derivation.proofs.product_moves.gathered.Given as goal

abbrev pub invariant-loop-factor : goal.invariant-loop-factor
invariant-loop-factor l = gathered l.all.bits l.b.bits l.c.bits (views (drop l.factor-index l.factors))
    ≡ gathered l.fn.a.bits l.b.bits l.c.bits (views l.factors)
