use Rattle.std.proofs.Common.{◌≡◌, drop}
use Rattle.prob_expr.specs.Vocabulary.{views}
use Rattle.do_derivation.specs.Shapes.{has_product}
use Rattle.do_derivation.proofs.factors.has_product.Given as goal

abbrev pub invariant-loop-factor : goal.invariant-loop-factor
invariant-loop-factor l = has_product (views (drop l.factor-index l.factor-items)) ≡ has_product (views l.factor-items)
