use Rattle.std.proofs.Common.{◌≡◌, false, [], ◌∷◌, sym, ap, ◌∙◌, rules}
use Rattle.prob_expr.specs.Tree.{tree}
use Rattle.prob_expr.specs.Vocabulary.{no_trees, views}
use Rattle.prob_expr.specs.View.{view}
use Rattle.do_derivation.specs.Shapes.{appended, has_product}
use Rattle.do_derivation.proofs.Lists
use Rattle.do_derivation.proofs.Walks
use Rattle.do_derivation.proofs.factors.push_flat.Goals as goal

pub returns-in_ok-append : goal.returns-in_ok-append
returns-in_ok-append c = ap views c.in_ok-append.ensures.items ∙ Walks.flat_product c.args.made.now.items c.factors_of.result.items (view c.args.factor)
    c.factors_of.ensures

pub returns-in_ok-push : goal.returns-in_ok-push
returns-in_ok-push c =
    let h : has_product (tree (view c.args.factor) no_trees) ≡ false = search rules in
    ap views c.in_ok-push.ensures.items ∙ Lists.views_append c.args.made.now.items (c.args.factor ∷ [])
    ∙ ap (λ t. appended (views c.args.made.now.items) t) (sym (Walks.flat_other (view c.args.factor) h))
