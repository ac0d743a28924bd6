-- Expressions, level by level.
use Rattle.std.proofs.Common.{◌≡◌, ℕ, ◌+◌, ◌<◌, ◌≤◌, true, false, List, [], ◌∷◌, length, drop, get_or, Vec, refl, sym, ap, ◌∙◌, arith, rules}
use Rattle.std.proofs.lemmas.List.{at_drop_more, at_drop_all}
use Rattle.std.specs.declared.alloc.Global.{Global}
use Rattle.prob_expr.specs.Tree.{product, no_trees, tree}
use Rattle.prob_expr.specs.View.{view, views}
use Rattle.prob_expr.specs.Check.{are_two}
use Rattle.prob_expr.specs.declared.expr.Expr.{Expr, Product, the_lemmas}

-- the tree of a product is the product of its factors' trees
pub view-Product : (v : Vec Expr Global) → view (Product v) ≡ product (views v.items)
view-Product v = search (rules, the_lemmas)

pub few_factors : (es : List Expr) → length es < 2 → are_two (views es) ≡ false
few_factors [] h = refl
few_factors (e ∷ []) h = refl
few_factors (e ∷ f ∷ es) h = absurd (omega arith)

pub many_factors : (es : List Expr) → 2 ≤ length es → are_two (views es) ≡ true
many_factors [] h = absurd (omega arith)
many_factors (e ∷ []) h = absurd (omega arith)
many_factors (e ∷ f ∷ es) h = refl

-- a list from the number i on: its element there, and the rest
pub views_more : (es : List Expr) (i : ℕ) (e : Expr) → i < length es → e ≡ get_or es i e → views (drop i es) ≡ tree (view e) (views (drop (i + 1) es))
views_more es i e lt is = at_drop_more views es i e lt ∙ ap (λ x. tree (view x) (views (drop (i + 1) es))) (sym is)

-- from a number past the last factor on there is none
pub none_after : (es : List Expr) (i : ℕ) → length es ≤ i → views (drop i es) ≡ no_trees
none_after es i le = at_drop_all views es i le
