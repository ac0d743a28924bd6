-- The formula of an effect among the treated is a sum of a product of terms.
use Rattle.std.proofs.Common.{ℕ, ◌≡◌, Bool, true, false, not, cond, ◌||◌, ◌&&◌, refl, sym, ap, ◌∙◌, subst, arith, List, [], ◌∷◌}
use Rattle.std.proofs.lemmas.Bool.{false≢true}
use Rattle.mixed_graph.specs.Vocabulary.{has, MixedGraph, is_empty, minus, one, union}
use Rattle.mixed_graph.proofs.MaskLaws.{has_join, has_minus, has_none}
use Rattle.prob_expr.specs.Tree.{Tree, prob, sum, product, quotient, named, tree}
use Rattle.prob_expr.specs.Vocabulary.{Trees, no_trees}
use Rattle.do_derivation.specs.Vocabulary.{as_one}
use Rattle.identification_theory.specs.Vocabulary.{sum_if}
use Rattle.treated_id.specs.Terms.{AreTerms as AreTreatedTerms, with_first}
use Rattle.named_factors.specs.Named.{factors_in, body_in, summed_in}
use Rattle.named_factors.specs.Shapes.{AreTerms, IsSumOfTerms, TreatedIsSumOfTerms}

terms_are : (g : MixedGraph) (x s c p : ℕ) (o : List ℕ) (ts : Trees) → AreTreatedTerms g x s c p o ts → AreTerms ts
terms_are g x s c p [] no_trees AreTreatedTerms.none = tt
terms_are g x s c p [] (tree t ts) h = elim h [ ]
terms_are g x s c p (v ∷ o) ts (AreTreatedTerms.skip out rest) = terms_are g x s c (union p (one v)) o ts rest
terms_are g x s c p (v ∷ o) (tree t ts) (AreTreatedTerms.take into is rest) = (tt, terms_are g x s c (union p (one v)) o ts rest)

first_are : (rest given : ℕ) (ts : Trees) → AreTerms ts → AreTerms (with_first rest given ts)
first_are rest given ts h = go (is_empty rest)
  where
    go : (b : Bool) → AreTerms (cond b ts (tree (prob rest 0 given) ts))
    go true = h
    go false = (tt, h)

-- as one tree, they are its factors, and it isn't a sum
record IsBody (e : Tree) : Type 0 where
  terms : AreTerms (factors_in e)
  body : body_in e ≡ e
  none : summed_in e ≡ 0

one_is : (ts : Trees) → AreTerms ts → IsBody (as_one ts)
one_is no_trees h = record { terms = tt; body = refl; none = refl }
one_is (tree (prob a b c) no_trees) h = record { terms = (tt, tt); body = refl; none = refl }
one_is (tree (sum u e) no_trees) h = absurd h.0
one_is (tree (product ts) no_trees) h = absurd h.0
one_is (tree (quotient p q) no_trees) h = absurd h.0
one_is (tree (named k) no_trees) h = absurd h.0
one_is (tree t (tree u ts)) h = record { terms = h; body = refl; none = refl }

sum_is : (u : ℕ) (e : Tree) → IsBody e → IsSumOfTerms (sum_if u e)
sum_is u e h = go (is_empty u)
  where
    go : (b : Bool) → AreTerms (factors_in (body_in (cond b e (sum u e))))
    go true = subst (λ k. AreTerms (factors_in k)) (sym h.body) h.terms
    go false = h.terms

-- what is summed over is in the set
summed_has : (u : ℕ) (e : Tree) → IsBody e → (v : ℕ) → has (summed_in (sum_if u e)) v ≡ true → has u v ≡ true
summed_has u e h v = go (is_empty u)
  where
    go : (b : Bool) → has (summed_in (cond b e (sum u e))) v ≡ true → has u v ≡ true
    go true i = absurd (false≢true (sym (has_none v) ∙ ap (λ k. has k v) (sym h.none) ∙ i))
    go false i = i

pub treated_is_sum_of_terms : TreatedIsSumOfTerms
treated_is_sum_of_terms g x y z f k =
    let by = k.by in let u = minus by.s (union (union x z) y) in let e = as_one (with_first (minus by.c (union x z)) by.given by.terms) in
    let body = one_is (with_first (minus by.c (union x z)) by.given by.terms) (first_are (minus by.c (union x z)) by.given by.terms
    (terms_are g x by.s by.c 0 k.order by.terms by.are_terms)) in
    record {
      terms = subst IsSumOfTerms (sym by.main) (sum_is u e body);
      others = λ v i.
          let into = sym (has_minus by.s (union (union x z) y) v) ∙ summed_has u e body v (ap (λ t. has (summed_in t) v) (sym by.main) ∙ i) in
          record {
            low = (by.are_s.sound v (first (has by.s v) (has (union (union x z) y) v) into)).vertex;
            outside = second (has by.s v) (has x v) (has z v) (has y v)
                (ap (λ b. has by.s v && not b) (sym (has_join (union x z) y v ∙ ap (λ b. b || has y v) (has_join x z v))) ∙ into);
          };
    }
  where
    first : (p q : Bool) → (p && not q) ≡ true → p ≡ true
    first p q h = grind (arith, h)

    second : (p i j k : Bool) → (p && not ((i || j) || k)) ≡ true → i ≡ false
    second p i j k h = grind (arith, h)
