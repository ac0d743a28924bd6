-- Counting on from factor to factor.
use Rattle.std.proofs.Common.{◌≡◌, ℕ, ◌+◌, ◌<◌, ◌≤◌, List, ◌∷◌, [], length, map, drop, get_or, sym, ap, ◌∙◌, arith}
use Rattle.std.proofs.lemmas.List.{at_drop_more, at_drop_all}
use Rattle.prob_expr.specs.declared.expr.Expr.{Expr}
use Rattle.prob_expr.specs.Vocabulary.{cap, views}
use Rattle.prob_expr.specs.View.{view}
use Rattle.prob_expr.proofs.Views.{views_more, none_after}
use Rattle.short_formulas.specs.Length.{length_of, length_of_each, length_of_all}

-- a sum that stops at the cap stops once
pub cap_twice : (a b c : ℕ) → cap (cap (a + b) + c) ≡ cap (a + (b + c))
cap_twice a b c = omega arith

-- what the cap gives is at most the cap
pub is_few : (n a : ℕ) → n ≡ cap a → n ≤ 4294967295
is_few n a is = omega (arith, is)

-- the trees of a list from the number i on: that of its element there, and the rest
pub trees_more : (es : List Expr) (i : ℕ) (e : Expr) → i < length es → e ≡ get_or es i e → map view (drop i es) ≡ view e ∷ map view (drop (i + 1) es)
trees_more es i e lt is = at_drop_more (map view) es i e lt ∙ ap (λ x. view x ∷ map view (drop (i + 1) es)) (sym is)

pub no_trees_after : (es : List Expr) (i : ℕ) → length es ≤ i → map view (drop i es) ≡ []
no_trees_after es i le = at_drop_all (map view) es i le

-- ---- lengths

pub count_step : (before after : ℕ) (es : List Expr) (i : ℕ) (e : Expr) → i < length es → e ≡ get_or es i e → after ≡ cap (before + length_of (view e))
    → cap (after + length_of_each (views (drop (i + 1) es))) ≡ cap (before + length_of_each (views (drop i es)))
count_step before after es i e lt is h =
    ap (λ x. cap (x + length_of_each (views (drop (i + 1) es)))) h
    ∙ cap_twice before (length_of (view e)) (length_of_each (views (drop (i + 1) es)))
    ∙ sym (ap (λ ts. cap (before + length_of_each ts)) (views_more es i e lt is))

pub count_step_all : (before after : ℕ) (es : List Expr) (i : ℕ) (e : Expr) → i < length es → e ≡ get_or es i e → after ≡ cap (before + length_of (view e))
    → cap (after + length_of_all (map view (drop (i + 1) es))) ≡ cap (before + length_of_all (map view (drop i es)))
count_step_all before after es i e lt is h =
    ap (λ x. cap (x + length_of_all (map view (drop (i + 1) es)))) h
    ∙ cap_twice before (length_of (view e)) (length_of_all (map view (drop (i + 1) es)))
    ∙ sym (ap (λ ts. cap (before + length_of_all ts)) (trees_more es i e lt is))

capped : (n : ℕ) → n ≤ 4294967295 → cap (n + 0) ≡ n
capped n le = omega (arith, le)

pub count_end : (n : ℕ) (es : List Expr) (i : ℕ) → n ≤ 4294967295 → length es ≤ i → cap (n + length_of_each (views (drop i es))) ≡ n
count_end n es i few le = ap (λ ts. cap (n + length_of_each ts)) (none_after es i le) ∙ capped n few

pub count_end_all : (n : ℕ) (es : List Expr) (i : ℕ) → n ≤ 4294967295 → length es ≤ i → cap (n + length_of_all (map view (drop i es))) ≡ n
count_end_all n es i few le = ap (λ ts. cap (n + length_of_all ts)) (no_trees_after es i le) ∙ capped n few
