use Rattle.std.proofs.Common.{◌≡◌, ◌∙◌, ap, sym, rules}
use Rattle.prob_expr.specs.Tree.{product}
use Rattle.prob_expr.specs.View.{view}
use Rattle.prob_expr.specs.declared.expr.Expr.{the_lemmas}
use Rattle.prob_expr.specs.Vocabulary.{views}
use Rattle.do_derivation.specs.Vocabulary.{child, factor_at}
use Rattle.held_steps.proofs.Places.{factor_found}
use Rattle.held_steps.proofs.parts.child_at.Goals as goal

pub returns-in-Product : goal.returns-in-Product
returns-in-Product c =
    let e : view c.args.e.now ≡ product (views c.in-Product.factors.items) = search (rules, the_lemmas) in
    factor_found c.deref-in-Product.result.now c.args.i c.get.result _ c.get.ensures.lookup.1 c.get.ensures.lookup.3
    ∙ ap (λ es. factor_at (views es) c.args.i) c.deref-in-Product.ensures.value
    ∙ sym (ap (λ t. child t c.args.i) e)
