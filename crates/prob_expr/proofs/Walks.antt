-- Steps of a fold: where each ends, or how it goes on.
use Rattle.std.proofs.Common.{◌≡◌, ℕ, Result, Ok, Err, Box, Global, List, [], ◌∷◌, length, drop, ◌+◌, ◌<◌, true, IsTrue, refl, subst, rules, arith}
use Rattle.finite_models.proofs.Bools.{and_second}
use Rattle.prob_expr.specs.View.{view, views}
use Rattle.mixed_graph.specs.declared.sets.VSet.{VSet}
use Rattle.prob_expr.specs.declared.expr.Expr.{Expr, Sum, Quotient, the_lemmas}
use Rattle.prob_expr.specs.Tree.{Tree, sum, quotient, Trees, tree}
use Rattle.prob_expr.specs.Fold.{Meaning, Folds, FoldsFirst, FoldsNext, has_factors, are_some, each_has}

pub sum_bad : {S O F : Type 0} (M : Meaning S O F) (u : ℕ) (e : Tree) (old m : S) (fault : F) → Folds M e old (Err fault) m
    → Folds M (sum u e) old (Err fault) m
sum_bad M u e old m fault h = (Err fault, m, h, (refl, refl))

pub sum_good : {S O F : Type 0} (M : Meaning S O F) (u : ℕ) (e : Tree) (old m new : S) (body : O) (r : Result O F) → Folds M e old (Ok body) m
    → M.sum_does m u body r new → Folds M (sum u e) old r new
sum_good M u e old m new body r h k = (Ok body, m, h, k)

pub top_bad : {S O F : Type 0} (M : Meaning S O F) (p q : Tree) (old m : S) (fault : F) → Folds M p old (Err fault) m → Folds M (quotient p q) old (Err fault) m
top_bad M p q old m fault h = (Err fault, m, h, (refl, refl))

pub bottom_bad : {S O F : Type 0} (M : Meaning S O F) (p q : Tree) (old m k : S) (top : O) (fault : F) → Folds M p old (Ok top) m → Folds M q m (Err fault) k
    → Folds M (quotient p q) old (Err fault) k
bottom_bad M p q old m k top fault h g = (Ok top, m, h, (Err fault, k, g, (refl, refl)))

pub quotient_good : {S O F : Type 0} (M : Meaning S O F) (p q : Tree) (old m k new : S) (top bottom : O) (r : Result O F) → Folds M p old (Ok top) m
    → Folds M q m (Ok bottom) k → M.quotient_does k top bottom r new → Folds M (quotient p q) old r new
quotient_good M p q old m k new top bottom r h g d = (Ok top, m, h, (Ok bottom, k, g, d))

pub first_bad : {S O F : Type 0} (M : Meaning S O F) (t : Tree) (ts : Trees) (old m : S) (fault : F) → Folds M t old (Err fault) m
    → FoldsFirst M (tree t ts) old (Err fault) m
first_bad M t ts old m fault h = (Err fault, m, h, (refl, refl))

pub start_bad : {S O F : Type 0} (M : Meaning S O F) (t : Tree) (ts : Trees) (old m k : S) (first : O) (fault : F) → Folds M t old (Ok first) m
    → M.start_does m first (Err fault) k → FoldsFirst M (tree t ts) old (Err fault) k
start_bad M t ts old m k first fault h d = (Ok first, m, h, (Err fault, k, d, (refl, refl)))

pub started : {S O F : Type 0} (M : Meaning S O F) (t : Tree) (ts : Trees) (old m k new : S) (first so_far : O) (r : Result O F) → Folds M t old (Ok first) m
    → M.start_does m first (Ok so_far) k → FoldsNext M so_far ts k r new → FoldsFirst M (tree t ts) old r new
started M t ts old m k new first so_far r h d n = (Ok first, m, h, (Ok so_far, k, d, n))

pub next_bad : {S O F : Type 0} (M : Meaning S O F) (so_far : O) (t : Tree) (ts : Trees) (old m : S) (fault : F) → Folds M t old (Err fault) m
    → FoldsNext M so_far (tree t ts) old (Err fault) m
next_bad M so_far t ts old m fault h = (Err fault, m, h, (refl, refl))

pub factor_bad : {S O F : Type 0} (M : Meaning S O F) (so_far : O) (t : Tree) (ts : Trees) (old m k : S) (next : O) (fault : F) → Folds M t old (Ok next) m
    → M.factor_does m so_far next (Err fault) k → FoldsNext M so_far (tree t ts) old (Err fault) k
factor_bad M so_far t ts old m k next fault h d = (Ok next, m, h, (Err fault, k, d, (refl, refl)))

pub next_good : {S O F : Type 0} (M : Meaning S O F) (so_far : O) (t : Tree) (ts : Trees) (old m k new : S) (next more : O) (r : Result O F)
    → Folds M t old (Ok next) m → M.factor_does m so_far next (Ok more) k → FoldsNext M more ts k r new → FoldsNext M so_far (tree t ts) old r new
next_good M so_far t ts old m k new next more r h d n = (Ok next, m, h, (Ok more, k, d, n))

pub view-Sum : (u : VSet) (b : Box Expr Global) → view (Sum u b) ≡ sum u.bits (view b.value)
view-Sum u b = search (rules, the_lemmas)

pub view-Quotient : (p q : Box Expr Global) → view (Quotient p q) ≡ quotient (view p.value) (view q.value)
view-Quotient p q = search (rules, the_lemmas)

pub some_factor : (es : List Expr) → IsTrue (are_some (views es)) → 0 < length es
some_factor [] h = absurd (cc h)
some_factor (e ∷ es) h = omega arith

pub first_has : (es : List Expr) (e : Expr) → views es ≡ tree (view e) (views (drop 1 es)) → IsTrue (are_some (views es)) → each_has (views (drop 1 es)) ≡ true
first_has es e is h = and_second (has_factors (view e)) (each_has (views (drop 1 es))) (subst (λ ts. are_some ts ≡ true) is h)

pub next_has : (es : List Expr) (i : ℕ) (e : Expr) → views (drop i es) ≡ tree (view e) (views (drop (i + 1) es)) → each_has (views (drop i es)) ≡ true
    → each_has (views (drop (i + 1) es)) ≡ true
next_has es i e is h = and_second (has_factors (view e)) (each_has (views (drop (i + 1) es))) (subst (λ ts. each_has ts ≡ true) is h)
