-- The formula of identification has no intervention.
use Rattle.std.proofs.Common.{ℕ, suc, ◌+◌, ◌≡◌, Bool, true, false, cond, refl, ◌||◌, List, [], ◌∷◌, ◌++◌, length}
use Rattle.do_derivation.specs.Vocabulary.{as_one, flat, appended}
use Rattle.identification_theory.proofs.Bools.{and_l, and_r, both_true}
use Rattle.identification_theory.specs.Procedure.IsFactor.{whole, summed, further}
use Rattle.identification_theory.specs.Procedure.{AreFactored, AreFactors, IsBody, IsComposed, IsFactor, Source, conditional, marginal, product_of, sum_if}
use Rattle.mixed_graph.specs.Vocabulary.{MixedGraph, is_empty, union, minus, one}
use Rattle.prob_expr.specs.Vocabulary.{all_under, are_under, is_do_free, is_listed, is_under, PlainFormula, Trees, no_trees}
use Rattle.prob_expr.specs.Tree.{Tree, named, prob, product, quotient, sum, tree}

module _ (ok : List ℕ) where
  -- an experiment is none, or a listed one
  abbrev pub IsOk : Source → Type 0
  IsOk (Source.Under z) = (is_empty z || is_listed z ok) ≡ true
  IsOk (Source.Defined k) = Unit {0}

  -- a sum has only the listed interventions where its summand does
  pub free_sum : (s : ℕ) (e : Tree) → is_under ok e ≡ true → is_under ok (sum_if s e) ≡ true
  free_sum s e h = go (is_empty s)
    where
      go : (b : Bool) → is_under ok (cond b e (sum s e)) ≡ true
      go true = h
      go false = h

  free_factor : (from : Source) (a v m : ℕ) → IsOk from → is_under ok (conditional from a v m) ≡ true
  free_factor (Source.Under z) a v m h = h
  free_factor (Source.Defined k) a v m h = go (is_empty m)
    where
      go : (b : Bool) → is_under ok (cond b (marginal k a (one v)) (quotient (marginal k a (union m (one v))) (marginal k a m))) ≡ true
      go true = free_sum (minus a (one v)) (named k) refl
      go false = both_true (is_under ok (marginal k a (union m (one v)))) (is_under ok (marginal k a m)) (free_sum (minus a (union m (one v))) (named k) refl)
          (free_sum (minus a m) (named k) refl)

  free_factors : (g : MixedGraph) (from : Source) (a t p : ℕ) (o : List ℕ) (fs : Trees) → IsOk from → AreFactors g from a t p o fs → are_under ok fs ≡ true
  free_factors g from a t _ _ _ h AreFactors.none = refl
  free_factors g from a t _ _ _ h (AreFactors.skip {p = p} {v = v} {o = o} {fs = fs} q r) = free_factors g from a t (union p (one v)) o fs h r
  free_factors g from a t _ _ _ h (AreFactors.take {p = p} {v = v} {m = m} {o = o} {fs = fs} q pl r) =
      both_true (is_under ok (conditional from a v m)) (are_under ok fs) (free_factor from a v m h) (free_factors g from a t (union p (one v)) o fs h r)

  free_one : (fs : Trees) → are_under ok fs ≡ true → is_under ok (as_one fs) ≡ true
  free_one no_trees h = refl
  free_one (tree e no_trees) h = and_l (is_under ok e) true h
  free_one (tree e (tree f fs)) h = h

  free_body : (g : MixedGraph) (o : List ℕ) (from : Source) (a t : ℕ) (e : Tree) → IsOk from → IsBody g o from a t e → is_under ok e ≡ true
  free_body g o from a t e h b = rw b.is (free_one b.factors (free_factors g from a t 0 o b.factors h b.are))

  -- a factor and its definitions have only listed interventions where that is so of its source
  pub free_of : (g : MixedGraph) (o : List ℕ) (c a : ℕ) (from : Source) (k : ℕ) (ds : List Tree) (e : Tree) → IsOk from → IsFactor g o c a from k ds e
      → (all_under ok ds ≡ true) × (is_under ok e ≡ true)
  free_of g o c a from k _ e w (whole d b) = (refl, free_body g o from a c e w b)
  free_of g o c a from k _ _ w (summed {t = t} {e = e} d ne n b) = (refl, free_body g o from a t e w b)
  free_of g o c a from k _ e w (further {t = t} {a2 = a2} {b = x} {ds = ds} d ne n q r b next) = let h =
      free_of g o c a2 (Source.Defined k) (suc k) ds e tt next in
      (both_true (is_under ok x) (all_under ok ds) (free_body g o from a t x w b) h.0, h.1)

  -- where the trees of two lists have only the listed interventions, so do those of the joined list
  pub all_under-append : (ds es : List Tree) → all_under ok ds ≡ true → all_under ok es ≡ true → all_under ok (ds ++ es) ≡ true
  all_under-append [] es h k = k
  all_under-append (d ∷ ds) es h k = both_true (is_under ok d) (all_under ok (ds ++ es)) (and_l (is_under ok d) (all_under ok ds) h)
      (all_under-append ds es (and_r (is_under ok d) (all_under ok ds) h) k)

  pub free_all : (g : MixedGraph) (o : List ℕ) (k : ℕ) (cs : List ℕ) (ds : List Tree) (fs : Trees) → AreFactored g o k cs ds fs → (all_under ok ds ≡ true)
      × (are_under ok fs ≡ true)
  free_all g o _ _ _ _ AreFactored.none = (refl, refl)
  free_all g o _ _ _ _ (AreFactored.next {k = k} {c = c} {a = a} {cs = cs} {ds = ds} {es = es} {e = e} {fs = fs} n f r) = let x =
      free_of g o c a (Source.Under 0) k ds e refl f in let y = free_all g o (k + length ds) cs es fs r in
      (all_under-append ds es x.0 y.0, both_true (is_under ok e) (are_under ok fs) x.1 y.1)

  free_joined : (es fs : Trees) → are_under ok es ≡ true → are_under ok fs ≡ true → are_under ok (appended es fs) ≡ true
  free_joined no_trees fs h k = k
  free_joined (tree e es) fs h k = both_true (is_under ok e) (are_under ok (appended es fs)) (and_l (is_under ok e) (are_under ok es) h)
      (free_joined es fs (and_r (is_under ok e) (are_under ok es) h) k)

  free_flat : (fs : Trees) → are_under ok fs ≡ true → are_under ok (flat fs) ≡ true
  free_flat no_trees h = refl
  free_flat (tree (product es) fs) h = free_joined es (flat fs) (and_l (are_under ok es) (are_under ok fs) h)
      (free_flat fs (and_r (are_under ok es) (are_under ok fs) h))
  free_flat (tree (prob a b c) fs) h = both_true (is_under ok (prob a b c)) (are_under ok (flat fs)) (and_l (is_under ok (prob a b c)) (are_under ok fs) h)
      (free_flat fs (and_r (is_under ok (prob a b c)) (are_under ok fs) h))
  free_flat (tree (sum u e) fs) h = both_true (is_under ok e) (are_under ok (flat fs)) (and_l (is_under ok e) (are_under ok fs) h)
      (free_flat fs (and_r (is_under ok e) (are_under ok fs) h))
  free_flat (tree (quotient p q) fs) h = both_true (is_under ok (quotient p q)) (are_under ok (flat fs))
      (and_l (is_under ok (quotient p q)) (are_under ok fs) h) (free_flat fs (and_r (is_under ok (quotient p q)) (are_under ok fs) h))
  free_flat (tree (named k) fs) h = free_flat fs h

  -- a product has only the listed interventions where each of its factors does
  pub free_product : (fs : Trees) → are_under ok fs ≡ true → is_under ok (product_of fs) ≡ true
  free_product no_trees h = refl
  free_product (tree e no_trees) h = and_l (is_under ok e) true h
  free_product (tree e (tree f fs)) h = free_flat (tree e (tree f fs)) h

pub tree_free : (g : MixedGraph) (o : List ℕ) (x y : ℕ) (f : PlainFormula) → IsComposed g o x y f → is_do_free f ≡ true
tree_free g o x y f t = let h = free_all [] g o 0 t.split.districts f.defs t.factors t.are_factored in
    both_true (all_under [] f.defs) (is_under [] f.main) h.0
    (rw t.main (free_sum [] (minus t.split.d y) (product_of t.factors) (free_product [] t.factors h.1)))
