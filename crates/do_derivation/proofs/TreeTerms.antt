-- Expressions all of whose terms are terms, and the ways in which the moves make further ones of their parts.
use Rattle.std.proofs.Common.{ℕ, zero, suc, ◌≡◌, ◌<◌, true, refl, sym, ◌∙◌, subst, List, [], ◌∷◌, Some, eqb-true, eq-eqb}
use Rattle.std.proofs.lemmas.Bool.{and_from}
use Rattle.std.proofs.lemmas.Option.{none-some}
use Rattle.mixed_graph.specs.Vocabulary.{has, minus, one, union, is_below}
use Rattle.finite_models.proofs.Bools.{and_first, and_second}
use Rattle.prob_expr.specs.Vocabulary.{are_terms, are_terms_each, Trees, no_trees}
use Rattle.prob_expr.specs.Tree.{Tree, prob, sum, product, quotient, named, tree}
use Rattle.mixed_graph.proofs.MaskLaws.{has_one, filled_has, below_has, below_from}
use Rattle.do_derivation.specs.Shapes.{is_list_of, chained, picked, as_one, or_nothing, groups_of, factor_at, flat, appended, child, with_child, with_factor}
use Rattle.do_derivation.proofs.TermSets.{IsTerm, of_part, chain_on, term_from, term_filled, term_test}
use Rattle.do_derivation.proofs.Children.{some_is}

-- each term's sets are apart and below n, and its first is not empty; each sum's set is below n
abbrev mutual
  pub AreTerms : ℕ → Tree → Type 0
  AreTerms n (prob a b c) = IsTerm n a b c × (a ≡ 0 → ⊥)
  AreTerms n (sum u e) = ((v : ℕ) → has u v ≡ true → v < n) × AreTerms n e
  AreTerms n (product ts) = AreTermsEach n ts
  AreTerms n (quotient x y) = AreTerms n x × AreTerms n y
  AreTerms n (named k) = Unit {0}

  pub AreTermsEach : ℕ → Trees → Type 0
  AreTermsEach n no_trees = Unit {0}
  AreTermsEach n (tree e ts) = AreTerms n e × AreTermsEach n ts

-- ---- terms in parts of products
factor_terms : (n : ℕ) (ts : Trees) (i : ℕ) → AreTermsEach n ts → AreTerms n (or_nothing (factor_at ts i))
factor_terms n no_trees i t = tt
factor_terms n (tree e ts) zero t = t.0
factor_terms n (tree e ts) (suc i) t = factor_terms n ts i t.1

pub picked_terms : (n : ℕ) (ts : Trees) (l : List ℕ) → AreTermsEach n ts → AreTermsEach n (picked ts l)
picked_terms n ts [] t = tt
picked_terms n ts (i ∷ l) t = (factor_terms n ts i t, picked_terms n ts l t)

pub one_terms : (n : ℕ) (ts : Trees) → AreTermsEach n ts → AreTerms n (as_one ts)
one_terms n no_trees t = tt
one_terms n (tree e no_trees) t = t.0
one_terms n (tree e (tree f ts)) t = t

pub groups_terms : (n : ℕ) (ts : Trees) (l : List (List ℕ)) → AreTermsEach n ts → AreTermsEach n (groups_of ts l)
groups_terms n ts [] t = tt
groups_terms n ts (k ∷ l) t = (one_terms n (picked ts k) (picked_terms n ts k t), groups_terms n ts l t)

pub joined_terms : (n : ℕ) (ts us : Trees) → AreTermsEach n ts → AreTermsEach n us → AreTermsEach n (appended ts us)
joined_terms n no_trees us t r = r
joined_terms n (tree e ts) us t r = (t.0, joined_terms n ts us t.1 r)

pub flat_terms : (n : ℕ) (ts : Trees) → AreTermsEach n ts → AreTermsEach n (flat ts)
flat_terms n no_trees t = tt
flat_terms n (tree (product es) ts) t = joined_terms n es (flat ts) t.0 (flat_terms n ts t.1)
flat_terms n (tree (prob a b c) ts) t = (t.0, flat_terms n ts t.1)
flat_terms n (tree (sum u e) ts) t = (t.0, flat_terms n ts t.1)
flat_terms n (tree (quotient x y) ts) t = (t.0, flat_terms n ts t.1)
flat_terms n (tree (named k) ts) t = (t.0, flat_terms n ts t.1)

pub chained_terms : (n : ℕ) (o : List ℕ) (a b c : ℕ) → is_list_of o a ≡ true → IsTerm n a b c → AreTermsEach n (chained b c o)
chained_terms n [] a b c e t = tt
chained_terms n (v ∷ o) a b c e t = (
  (
    of_part n a b c (one v) t (λ w i. subst (λ x. has a x ≡ true) (sym (eqb-true w v (sym (has_one v w) ∙ i)))
        (and_first (has a v) (is_list_of o (minus a (one v))) e)),
    filled_has (one v) v (has_one v v ∙ eq-eqb v v refl),
  ),
  chained_terms n o (minus a (one v)) b (union c (one v)) (and_second (has a v) (is_list_of o (minus a (one v))) e)
      (chain_on n a b c v t (and_first (has a v) (is_list_of o (minus a (one v))) e)),
)

-- where all terms of an expression are terms, so are those of each child
pub child_terms : (n : ℕ) (e : Tree) (i : ℕ) (c : Tree) → child e i ≡ Some c → AreTerms n e → AreTerms n c
child_terms n (prob x y z) i c h t = absurd (none-some c h)
child_terms n (sum u e) zero c h t = subst (λ x. AreTerms n x) (some_is e c h) t.1
child_terms n (sum u e) (suc i) c h t = absurd (none-some c h)
child_terms n (product ts) i c h t = subst (λ o. AreTerms n (or_nothing o)) h (factor_terms n ts i t)
child_terms n (quotient x y) zero c h t = subst (λ z. AreTerms n z) (some_is x c h) t.0
child_terms n (quotient x y) (suc zero) c h t = subst (λ z. AreTerms n z) (some_is y c h) t.1
child_terms n (quotient x y) (suc (suc i)) c h t = absurd (none-some c h)
child_terms n (named k) i c h t = absurd (none-some c h)

pub with_factor_terms : (n : ℕ) (ts : Trees) (i : ℕ) (c : Tree) → AreTermsEach n ts → AreTerms n c → AreTermsEach n (with_factor ts i c)
with_factor_terms n no_trees i c t r = tt
with_factor_terms n (tree e ts) zero c t r = (r, t.1)
with_factor_terms n (tree e ts) (suc i) c t r = (t.0, with_factor_terms n ts i c t.1 r)

pub with_child_terms : (n : ℕ) (e : Tree) (i : ℕ) (c : Tree) → AreTerms n e → AreTerms n c → AreTerms n (with_child e i c)
with_child_terms n (prob x y z) i c t r = t
with_child_terms n (sum u e) i c t r = (t.0, r)
with_child_terms n (product ts) i c t r = with_factor_terms n ts i c t r
with_child_terms n (quotient x y) zero c t r = (r, t.1)
with_child_terms n (quotient x y) (suc i) c t r = (t.0, r)
with_child_terms n (named k) i c t r = tt

-- ---- as tests
mutual
  -- all terms of an expression that passes the test are terms
  pub terms_of : (n : ℕ) (e : Tree) → are_terms n e ≡ true → AreTerms n e
  terms_of n (prob a b c) h = (term_from n a b c h, term_filled n a b c h)
  terms_of n (sum u e) h = ((λ v. below_has n u v (and_first (is_below n u) (are_terms n e) h)), terms_of n e (and_second (is_below n u) (are_terms n e) h))
  terms_of n (product ts) h = terms_of_each n ts h
  terms_of n (quotient x y) h = (terms_of n x (and_first (are_terms n x) (are_terms n y) h), terms_of n y (and_second (are_terms n x) (are_terms n y) h))
  terms_of n (named k) h = tt

  pub terms_of_each : (n : ℕ) (ts : Trees) → are_terms_each n ts ≡ true → AreTermsEach n ts
  terms_of_each n no_trees h = tt
  terms_of_each n (tree e ts) h = (
    terms_of n e (and_first (are_terms n e) (are_terms_each n ts) h),
    terms_of_each n ts (and_second (are_terms n e) (are_terms_each n ts) h),
  )

mutual
  -- an expression all of whose terms are terms passes the test
  pub terms_test : (n : ℕ) (e : Tree) → AreTerms n e → are_terms n e ≡ true
  terms_test n (prob a b c) t = term_test n a b c t.0 t.1
  terms_test n (sum u e) t = and_from (is_below n u) (are_terms n e) (below_from n u t.0) (terms_test n e t.1)
  terms_test n (product ts) t = terms_test_each n ts t
  terms_test n (quotient x y) t = and_from (are_terms n x) (are_terms n y) (terms_test n x t.0) (terms_test n y t.1)
  terms_test n (named k) t = refl

  pub terms_test_each : (n : ℕ) (ts : Trees) → AreTermsEach n ts → are_terms_each n ts ≡ true
  terms_test_each n no_trees t = refl
  terms_test_each n (tree e ts) t = and_from (are_terms n e) (are_terms_each n ts) (terms_test n e t.0) (terms_test_each n ts t.1)
