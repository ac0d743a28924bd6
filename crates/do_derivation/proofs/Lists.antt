-- Lists of factors, of vertices and of numbers, as loops go over them.
use Rattle.std.proofs.Common.{ℕ, zero, suc, ◌+◌, ◌^◌, ◌≡◌, ◌<◌, ◌≤◌, Bool, true, false, eqb, ltb, ◌&&◌, refl, sym, ap, ◌∙◌, List, [], ◌∷◌, ◌++◌}
use Rattle.std.proofs.Common.{length, get_or, set, drop, Option, Some, None, arith, eqb-true}
use Rattle.mixed_graph.specs.Vocabulary.{has}
use Rattle.mixed_graph.proofs.Masks.{has-above}
use Rattle.finite_models.specs.Vocabulary.{all_below}
use Rattle.prob_expr.specs.Tree.{Tree, prob, sum, product, quotient, named, tree}
use Rattle.prob_expr.specs.declared.expr.Expr.{Expr}
use Rattle.prob_expr.specs.Vocabulary.{Trees, no_trees, views}
use Rattle.prob_expr.specs.View.{view}
use Rattle.do_derivation.specs.Shapes.{factor_at, with_factor, count_factors, appended, flat, times_in, each_below, or_nothing, gathered, term_with, unchained}

pub not_above : (m v : ℕ) → m < 2 ^ 64 → 64 ≤ v → has m v ≡ false
not_above m v lt le = has-above m v lt le

-- ---- factors put behind others
pub joined-nothing : (ts : Trees) → appended ts no_trees ≡ ts
joined-nothing no_trees = refl
joined-nothing (tree t ts) = ap (λ us. tree t us) (joined-nothing ts)

pub joined_nothing : (ts us : Trees) → appended ts no_trees ≡ us → ts ≡ us
joined_nothing ts us e = sym (joined-nothing ts) ∙ e

-- a factor at the end of a list may as well stand at the front of what follows it
pub joined_more : (es : List Expr) (e : Expr) (ts : Trees) → appended (views (es ++ e ∷ [])) ts ≡ appended (views es) (tree (view e) ts)
joined_more [] e ts = refl
joined_more (x ∷ es) e ts = ap (λ us. tree (view x) us) (joined_more es e ts)

pub joined_assoc : (ts us vs : Trees) → appended (appended ts us) vs ≡ appended ts (appended us vs)
joined_assoc no_trees us vs = refl
joined_assoc (tree t ts) us vs = ap (λ ws. tree t ws) (joined_assoc ts us vs)

pub views_append : (es fs : List Expr) → views (es ++ fs) ≡ appended (views es) (views fs)
views_append [] fs = refl
views_append (e ∷ es) fs = ap (λ us. tree (view e) us) (views_append es fs)

pub flat_joined : (ts us : Trees) → flat (appended ts us) ≡ appended (flat ts) (flat us)
flat_joined no_trees us = refl
flat_joined (tree (product es) ts) us = ap (λ vs. appended es vs) (flat_joined ts us) ∙ sym (joined_assoc es (flat ts) (flat us))
flat_joined (tree (prob a b c) ts) us = ap (λ vs. tree (prob a b c) vs) (flat_joined ts us)
flat_joined (tree (sum u e) ts) us = ap (λ vs. tree (sum u e) vs) (flat_joined ts us)
flat_joined (tree (quotient p q) ts) us = ap (λ vs. tree (quotient p q) vs) (flat_joined ts us)
flat_joined (tree (named k) ts) us = ap (λ vs. tree (named k) vs) (flat_joined ts us)

pub flat_more : (es : List Expr) (e : Expr) → flat (views (es ++ e ∷ [])) ≡ appended (flat (views es)) (flat (tree (view e) no_trees))
flat_more es e = ap flat (views_append es (e ∷ [])) ∙ flat_joined (views es) (tree (view e) no_trees)

pub count_views : (es : List Expr) → count_factors (views es) ≡ length es
count_views [] = refl
count_views (e ∷ es) = ap suc (count_views es)

-- ---- one factor
pub factor_some : (es : List Expr) (k : ℕ) (d : Expr) → k < length es → factor_at (views es) k ≡ Some (view (get_or es k d))
factor_some [] k d lt = absurd (omega arith)
factor_some (e ∷ es) zero d lt = refl
factor_some (e ∷ es) (suc k) d lt = factor_some es k d (omega arith)

pub factor_none : (es : List Expr) (k : ℕ) → length es ≤ k → factor_at (views es) k ≡ None
factor_none [] k le = refl
factor_none (e ∷ es) zero le = absurd (omega arith)
factor_none (e ∷ es) (suc k) le = factor_none es k (omega arith)

pub factor_set : (es : List Expr) (k : ℕ) (x : Expr) → views (set es k x) ≡ with_factor (views es) k (view x)
factor_set [] k x = refl
factor_set (e ∷ es) zero x = refl
factor_set (e ∷ es) (suc k) x = ap (λ ts. tree (view e) ts) (factor_set es k x)

pub factor_hole : (es : List Expr) (k : ℕ) (y : Expr) (x : Tree) → with_factor (views (set es k y)) k x ≡ with_factor (views es) k x
factor_hole [] k y x = refl
factor_hole (e ∷ es) zero y x = refl
factor_hole (e ∷ es) (suc k) y x = ap (λ ts. tree (view e) ts) (factor_hole es k y x)

pub picked_some : (es : List Expr) (k : ℕ) (d : Expr) → k < length es → or_nothing (factor_at (views es) k) ≡ view (get_or es k d)
picked_some es k d lt = ap or_nothing (factor_some es k d lt)

-- ---- numbers in groups
pub each_below_append : (m : ℕ) (l r : List ℕ) → each_below m (l ++ r) ≡ (each_below m l && each_below m r)
each_below_append m [] r = refl
each_below_append m (j ∷ l) r = ap (λ b. ltb j m && b) (each_below_append m l r) ∙ assoc (ltb j m) (each_below m l) (each_below m r)
  where
    assoc : (p q s : Bool) → (p && (q && s)) ≡ ((p && q) && s)
    assoc true q s = refl
    assoc false q s = refl

pub times_in_append : (i : ℕ) (l r : List ℕ) → times_in i (l ++ r) ≡ times_in i l + times_in i r
times_in_append i [] r = omega arith
times_in_append i (j ∷ l) r = let h = times_in_append i l r in omega (arith, h)

last_fails : (x y : Bool) → y ≡ false → (x && y) ≡ false
last_fails true y h = h
last_fails false y h = refl

first_fails : (x y : Bool) → x ≡ false → (x && y) ≡ false
first_fails true y h = absurd (grind (arith, h))
first_fails false y h = refl

pub all_below_fails : (m i : ℕ) (p : ℕ → Bool) → i < m → p i ≡ false → all_below m p ≡ false
all_below_fails zero i p lt e = absurd (omega arith)
all_below_fails (suc m) i p lt e = go (eqb i m) refl (λ l. all_below_fails m i p l e)
  where
    go : (b : Bool) → eqb i m ≡ b → (i < m → all_below m p ≡ false) → (all_below m p && p m) ≡ false
    go true same ih = last_fails (all_below m p) (p m) (ap p (sym (eqb-true i m same)) ∙ e)
    go false other ih = first_fails (all_below m p) (p m) (ih (let d : i ≡ m → ⊥ = λ same. absurd (grind (arith, same, other)) in omega arith))

-- ---- the one term of a chain
abbrev pub unchained_first : Tree → Trees → Option Tree
unchained_first (prob a b c) ts = term_with b c (gathered a b c ts)
unchained_first (sum u e) ts = None
unchained_first (product es) ts = None
unchained_first (quotient p q) ts = None
unchained_first (named k) ts = None

unchained_alone : (t : Tree) → unchained (product (tree t no_trees)) ≡ None
unchained_alone (prob a b c) = refl
unchained_alone (sum u e) = refl
unchained_alone (product es) = refl
unchained_alone (quotient p q) = refl
unchained_alone (named k) = refl

pub few_unchained : (es : List Expr) → length es < 2 → unchained (product (views es)) ≡ None
few_unchained [] lt = refl
few_unchained (e ∷ []) lt = unchained_alone (view e)
few_unchained (e ∷ f ∷ es) lt = absurd (omega arith)

unchained_two : (t u : Tree) (ts : Trees) → unchained (product (tree t (tree u ts))) ≡ unchained_first t (tree u ts)
unchained_two (prob a b c) u ts = refl
unchained_two (sum v e) u ts = refl
unchained_two (product es) u ts = refl
unchained_two (quotient p q) u ts = refl
unchained_two (named k) u ts = refl

pub unchained_many : (es : List Expr) (d : Expr) → 2 ≤ length es → unchained (product (views es)) ≡ unchained_first (view (get_or es 0 d)) (views (drop 1 es))
unchained_many [] d le = absurd (omega arith)
unchained_many (e ∷ []) d le = absurd (omega arith)
unchained_many (e ∷ f ∷ es) d le = unchained_two (view e) (view f) (views es)
