-- The test of trees for equality tells equal ones, and lists of other lengths are never the same.
use Rattle.std.proofs.Common.{◌≡◌, ◌≢◌, ◌↔◌, ℕ, Bool, true, false, ◌&&◌, List, [], ◌∷◌, length, eqb, refl, ap, subst, arith, eqb-true}
use Rattle.std.proofs.lemmas.Bool.{eq-eqb}
use Rattle.prob_expr.specs.Tree.{Tree, prob, sum, product, quotient, named, Trees, no_trees, tree}
use Rattle.prob_expr.specs.View.{view, views}
use Rattle.prob_expr.specs.declared.expr.Expr.{Expr}
use Rattle.prob_expr.specs.Same.{same_tree, same_trees}

and_true : (a b : Bool) → (a && b) ≡ true → (a ≡ true) × (b ≡ true)
and_true true b h = (refl, h)
and_true false b h = cc h

both : (a b : Bool) → a ≡ true → b ≡ true → (a && b) ≡ true
both a b h k = rw (h, k) refl

self : (n : ℕ) → eqb n n ≡ true
self n = eq-eqb n n refl

mutual
  itself : (t : Tree) → same_tree t t ≡ true
  itself (prob a b c) = both (eqb a a) (eqb b b && eqb c c) (self a) (both (eqb b b) (eqb c c) (self b) (self c))
  itself (sum u e) = both (eqb u u) (same_tree e e) (self u) (itself e)
  itself (product ts) = each_itself ts
  itself (quotient p q) = both (same_tree p p) (same_tree q q) (itself p) (itself q)
  itself (named k) = self k

  each_itself : (ts : Trees) → same_trees ts ts ≡ true
  each_itself no_trees = refl
  each_itself (tree t ts) = both (same_tree t t) (same_trees ts ts) (itself t) (each_itself ts)

mutual
  told : (t u : Tree) → same_tree t u ≡ true → t ≡ u
  told (prob a b c) (prob d e f) h =
      let x = and_true (eqb a d) (eqb b e && eqb c f) h in
      let y = and_true (eqb b e) (eqb c f) x.1 in
      let p : a ≡ d = eqb-true _ _ x.0 in let q : b ≡ e = eqb-true _ _ y.0 in let r : c ≡ f = eqb-true _ _ y.1 in cc
  told (prob a b c) (sum v f) h = cc h
  told (prob a b c) (product us) h = cc h
  told (prob a b c) (quotient r s) h = cc h
  told (prob a b c) (named l) h = cc h
  told (sum u e) (sum v f) h =
      let x = and_true (eqb u v) (same_tree e f) h in
      let p : u ≡ v = eqb-true _ _ x.0 in let q : e ≡ f = told e f x.1 in cc
  told (sum u e) (prob a b c) h = cc h
  told (sum u e) (product us) h = cc h
  told (sum u e) (quotient r s) h = cc h
  told (sum u e) (named l) h = cc h
  told (product ts) (product us) h = ap product (each_told ts us h)
  told (product ts) (prob a b c) h = cc h
  told (product ts) (sum u e) h = cc h
  told (product ts) (quotient r s) h = cc h
  told (product ts) (named l) h = cc h
  told (quotient p q) (quotient r s) h =
      let x = and_true (same_tree p r) (same_tree q s) h in
      let y : p ≡ r = told p r x.0 in let z : q ≡ s = told q s x.1 in cc
  told (quotient p q) (prob a b c) h = cc h
  told (quotient p q) (sum u e) h = cc h
  told (quotient p q) (product us) h = cc h
  told (quotient p q) (named l) h = cc h
  told (named k) (named l) h = ap named (eqb-true _ _ h)
  told (named k) (prob a b c) h = cc h
  told (named k) (sum u e) h = cc h
  told (named k) (product us) h = cc h
  told (named k) (quotient r s) h = cc h

  each_told : (ts us : Trees) → same_trees ts us ≡ true → ts ≡ us
  each_told no_trees no_trees h = refl
  each_told no_trees (tree u us) h = cc h
  each_told (tree t ts) no_trees h = cc h
  each_told (tree t ts) (tree u us) h =
      let x = and_true (same_tree t u) (same_trees ts us) h in
      let p : t ≡ u = told t u x.0 in let q : ts ≡ us = each_told ts us x.1 in cc

pub same_tells : (t u : Tree) → (same_tree t u ≡ true) ↔ (t ≡ u)
same_tells t u = (told t u, λ e. subst (λ x. same_tree t x ≡ true) e (itself t))

and_false : (a b : Bool) → b ≡ false → (a && b) ≡ false
and_false true b h = h
and_false false b h = refl

pub other_lengths : (xs ys : List Expr) → length xs ≢ length ys → same_trees (views xs) (views ys) ≡ false
other_lengths [] [] h = absurd (h refl)
other_lengths [] (y ∷ ys) h = refl
other_lengths (x ∷ xs) [] h = refl
other_lengths (x ∷ xs) (y ∷ ys) h = and_false (same_tree (view x) (view y)) (same_trees (views xs) (views ys)) (other_lengths xs ys (λ e. h (omega arith)))
