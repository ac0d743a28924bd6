-- The formula has no intervention.
use Rattle.std.proofs.Common.{◌≡◌, ℕ, Bool, true, false, cond, ◌&&◌, List, [], ◌∷◌, refl, ap₂, ◌∙◌, arith}
use Rattle.mixed_graph.specs.Vocabulary.{MixedGraph, union, minus, one, is_empty}
use Rattle.prob_expr.specs.Vocabulary.{is_under, are_under, all_under, is_do_free, Trees, no_trees, PlainFormula}
use Rattle.prob_expr.specs.Tree.{Tree, tree, prob, sum}
use Rattle.do_derivation.specs.Vocabulary.{as_one}
use Rattle.identification_theory.specs.Vocabulary.{sum_if}
use Rattle.treated_id.specs.Terms.{AreTerms, with_first, IsFormula}
use Rattle.treated_id.specs.Terms.AreTerms.{none, skip, take}

terms_free : (g : MixedGraph) (x s c p : ℕ) (o : List ℕ) (ts : Trees) → AreTerms g x s c p o ts → are_under [] ts ≡ true
terms_free g x s c p [] no_trees none = refl
terms_free g x s c p [] (tree t ts) h = elim h [ ]
terms_free g x s c p (v ∷ o) ts (skip e r) = terms_free g x s c (union p (one v)) o ts r
terms_free g x s c p (v ∷ o) (tree t ts) (take e k r) = terms_free g x s c (union p (one v)) o ts r

first_free : (rest given : ℕ) (ts : Trees) → are_under [] ts ≡ true → are_under [] (with_first rest given ts) ≡ true
first_free rest given ts h = go (is_empty rest)
  where
    go : (b : Bool) → are_under [] (cond b ts (tree (prob rest 0 given) ts)) ≡ true
    go true = h
    go false = h

one_free : (ts : Trees) → are_under [] ts ≡ true → is_under [] (as_one ts) ≡ true
one_free no_trees h = refl
one_free (tree t no_trees) h = first (is_under [] t) h
  where
    first : (p : Bool) → (p && true) ≡ true → p ≡ true
    first p j = grind (arith, j)
one_free (tree t (tree u ts)) h = h

sum_free : (u : ℕ) (e : Tree) → is_under [] e ≡ true → is_under [] (sum_if u e) ≡ true
sum_free u e h = go (is_empty u)
  where
    go : (b : Bool) → is_under [] (cond b e (sum u e)) ≡ true
    go true = h
    go false = h

pub formula_free : (g : MixedGraph) (x y z : ℕ) (f : PlainFormula) → IsFormula g x y z f → is_do_free f ≡ true
formula_free g x y z f k =
    ap₂ (λ d m. all_under [] d && is_under [] m) k.by.defs k.by.main
    ∙ sum_free (minus k.by.s (union (union x z) y)) (as_one (with_first (minus k.by.c (union x z)) k.by.given k.by.terms))
    (one_free (with_first (minus k.by.c (union x z)) k.by.given k.by.terms)
    (first_free (minus k.by.c (union x z)) k.by.given k.by.terms (terms_free g x k.by.s k.by.c 0 k.order k.by.terms k.by.are_terms)))
