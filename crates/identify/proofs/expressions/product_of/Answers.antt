use Rattle.std.proofs.Common.{◌≡◌, length, ap, ◌∙◌, arith}
use Rattle.prob_expr.proofs.Views.{view-Product}
use Rattle.prob_expr.specs.Tree.{product}
use Rattle.identify.proofs.StepLists.{flat_is}
use Rattle.identify.proofs.expressions.product_of.Goals as goal

pub returns-then-len-ne1 : goal.returns-then-len-ne1
returns-then-len-ne1 c =
    let ne : length c.args.factors.items ≡ 1 → ⊥ = λ e. absurd (let n = c.len.ensures in let t = c.if-len-ne1.true in omega (arith, e)) in
    view-Product c.in_ok-flat.field-0 ∙ ap product c.in_ok-flat.ensures ∙ flat_is c.args.factors.items ne
