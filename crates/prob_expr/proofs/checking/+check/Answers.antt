use Rattle.std.proofs.Common.{◌≡◌, true, false, refl, arith}
use Rattle.prob_expr.specs.View.{views}
use Rattle.prob_expr.specs.Check.{are_two}
use Rattle.prob_expr.proofs.Views.{view-Product, few_factors, many_factors}
use Rattle.prob_expr.proofs.checking.+check.Goals as goal

pub check_expr-returns-then-len-lt2 : goal.check_expr-returns-then-len-lt2
check_expr-returns-then-len-lt2 t c =
    let few : are_two (views c.in-Product.factors.items) ≡ false = few_factors _ (omega arith) in
    rw (c.in-Product.is, view-Product, few) refl

pub check_expr-returns-else-len-lt2 : goal.check_expr-returns-else-len-lt2
check_expr-returns-else-len-lt2 t c =
    let many : are_two (views c.in-Product.factors.items) ≡ true = many_factors _ (omega arith) in
    rw (c.in-Product.is, view-Product, many) (cc)
