-- Each part of the formula of identification has its form.
use Rattle.std.proofs.Common.{ℕ, suc, ◌+◌, ◌≡◌, ◌<◌, ◌≤◌, Bool, true, false, cond, not, refl, sym, subst, ◌⊎◌, inl, inr, List, [], ◌∷◌, ◌++◌, length}
use Rattle.std.proofs.Common.{arith, length-append}
use Rattle.hedge.specs.Vocabulary.{at}
use Rattle.do_derivation.specs.Vocabulary.{as_one, count_factors, flat, appended}
use Rattle.identification_theory.proofs.Accepted.{first_stage, d_low}
use Rattle.identification_theory.proofs.Body.{IsSite}
use Rattle.identification_theory.proofs.Bools.{and_l, clash}
use Rattle.identification_theory.proofs.Factor.{IsStage, ancestors_in, stage_of, site_of, not_all}
use Rattle.identification_theory.proofs.Groups.{Among, count, once, in_list, AreParts, are_parts}
use Rattle.identification_theory.proofs.Orders.{IsOrderFrom}
use Rattle.identification_theory.proofs.Sets.{apart, below, has-minus, not_empty, one-is, one-self}
use Rattle.identification_theory.specs.Procedure.IsFactor.{whole, summed, further}
use Rattle.identification_theory.specs.Procedure.{AreFactored, AreFactors, IsBody, IsComposed, IsFactor, IsTarget, Source, conditional, marginal}
use Rattle.identification_theory.specs.Procedure.{product_of, sum_if}
use Rattle.identification_theory.proofs.Names.{pillow_in}
use Rattle.mixed_graph.proofs.Masks.{has-zero}
use Rattle.mixed_graph.specs.Vocabulary.{has, IsMixedGraph, MixedGraph, is_apart, is_below, is_empty, union, minus, one}
use Rattle.prob_expr.specs.Vocabulary.{is_term, PlainFormula, Trees, no_trees}
use Rattle.prob_expr.specs.Tree.{Tree, named, prob, product, quotient, sum, tree}

-- Terms are terms below n, sums are over something below n, products have two factors at least, and definitions below k are named.
abbrev mutual
  -- the tree has this form, with vertices below n and definitions below k
  pub IsFormed : (n k : ℕ) → Tree → Type 0
  IsFormed n k (prob a b c) = is_term n a b c ≡ true
  IsFormed n k (sum u e) = (is_below n u ≡ true) × (is_empty u ≡ false) × IsFormed n k e
  IsFormed n k (product fs) = (2 ≤ count_factors fs) × AreFormed n k fs
  IsFormed n k (quotient p q) = IsFormed n k p × IsFormed n k q
  IsFormed n k (named j) = j < k

  -- each tree of the list has this form
  pub AreFormed : (n k : ℕ) → Trees → Type 0
  AreFormed n k no_trees = Unit {0}
  AreFormed n k (tree e fs) = IsFormed n k e × AreFormed n k fs

-- definitions from number k on, each naming earlier ones
abbrev pub AllFormed : (n k : ℕ) → List Tree → Type 0
AllFormed n k [] = Unit {0}
AllFormed n k (d ∷ ds) = IsFormed n k d × AllFormed n (suc k) ds

-- each definition has its form and names earlier ones, and main has its form and names any of them
abbrev pub IsFormedFormula : ℕ → PlainFormula → Type 0
IsFormedFormula n f = AllFormed n 0 f.defs × IsFormed n (length f.defs) f.main

pub is_term_from : (n a b c : ℕ) → is_below n a ≡ true → is_below n b ≡ true → is_below n c ≡ true → is_empty a ≡ false → is_apart a b ≡ true → is_apart a c
    ≡ true → is_apart b c ≡ true → is_term n a b c ≡ true
is_term_from n a b c h1 h2 h3 h4 h5 h6 h7 = rw (h1, h2, h3, h4, h5, h6, h7) refl

-- ---- definitions added above do no harm
mutual
  -- a tree that may name the definitions below j keeps its form where it may name more
  pub formed_more : (n j k : ℕ) (e : Tree) → j ≤ k → IsFormed n j e → IsFormed n k e
  formed_more n j k (prob a b c) le h = h
  formed_more n j k (sum u e) le h = (h.0, h.1, formed_more n j k e le h.2)
  formed_more n j k (product fs) le h = (h.0, formed_more_each n j k fs le h.1)
  formed_more n j k (quotient p q) le h = (formed_more n j k p le h.0, formed_more n j k q le h.1)
  formed_more n j k (named i) le h = omega (arith, h, le)

  -- so do the trees of a list
  pub formed_more_each : (n j k : ℕ) (fs : Trees) → j ≤ k → AreFormed n j fs → AreFormed n k fs
  formed_more_each n j k no_trees le h = tt
  formed_more_each n j k (tree e fs) le h = (formed_more n j k e le h.0, formed_more_each n j k fs le h.1)

abbrev pub IsEarlier : (n a : ℕ) → Source → ℕ → Type 0
IsEarlier n a (Source.Under z) k = ((u : ℕ) → has z u ≡ true → u < n) × ((u : ℕ) → has a u ≡ true → has z u ≡ false)
IsEarlier n a (Source.Defined j) k = j < k

module _ (g : MixedGraph) (is_graph : IsMixedGraph g) (o : List ℕ) (order : IsOrderFrom g 0 o) where
  n : ℕ
  n = g.vertices

  -- a sum over vertices of the graph has its form where its summand does
  pub sum_formed : (s k : ℕ) (e : Tree) → ((u : ℕ) → has s u ≡ true → u < g.vertices) → IsFormed g.vertices k e → IsFormed g.vertices k (sum_if s e)
  sum_formed s k e low h = go (is_empty s) refl
    where
      go : (b : Bool) → is_empty s ≡ b → IsFormed g.vertices k (cond b e (sum s e))
      go true q = h
      go false q = (below g.vertices s low, q, h)

  term_formed : (v z m : ℕ) → v < g.vertices → ((u : ℕ) → has z u ≡ true → u < g.vertices) → has z v ≡ false → ((u : ℕ) → has m u ≡ true → has z u ≡ false)
      → ((u : ℕ) → has m u ≡ true → u < g.vertices) → ((u : ℕ) → has m u ≡ true → u ≡ v → ⊥) → is_term g.vertices (one v) z m ≡ true
  term_formed v z m iv zl zv zm low off = is_term_from g.vertices (one v) z m
      (below g.vertices (one v) (λ u e. rw (one-is v u e) iv)) (below g.vertices z zl) (below g.vertices m low) (not_empty (one v) v (one-self v))
      (apart (one v) z (λ u e i. clash (has z v) (rw (one-is v u e) at i) zv)) (apart (one v) m (λ u e i. off u i (one-is v u e)))
      (apart z m (λ u e i. clash (has z u) e (zm u i)))

  factor_formed : (from : Source) (k a v m : ℕ) → IsEarlier g.vertices a from k → ((u : ℕ) → has a u ≡ true → u < g.vertices) → v < g.vertices
      → ((u : ℕ) → has m u ≡ true → u < g.vertices) → ((u : ℕ) → has m u ≡ true → u ≡ v → ⊥) → has a v ≡ true → ((u : ℕ) → has m u ≡ true → has a u ≡ true)
      → IsFormed g.vertices k (conditional from a v m)
  factor_formed (Source.Under z) k a v m i low iv ml off va ma = term_formed v z m iv i.0 (i.1 v va) (λ u e. i.1 u (ma u e)) ml off
  factor_formed (Source.Defined j) k a v m i low iv ml off va ma = go (is_empty m)
    where
      less : (u : ℕ) → (w : ℕ) → has (minus a u) w ≡ true → w < g.vertices
      less u w e = low w (and_l (has a w) (not (has u w)) (rw (has-minus a u w) at e))

      go : (b : Bool) → IsFormed g.vertices k (cond b (marginal j a (one v)) (quotient (marginal j a (union m (one v))) (marginal j a m)))
      go true = sum_formed (minus a (one v)) k (named j) (less (one v)) i
      go false = (sum_formed (minus a (union m (one v))) k (named j) (less (union m (one v))) i, sum_formed (minus a m) k (named j) (less m) i)

  factors_formed : (from : Source) (k a t p : ℕ) (o2 : List ℕ) (fs : Trees) → IsEarlier g.vertices a from k → ((u : ℕ) → has a u ≡ true → u < g.vertices)
      → ((u : ℕ) → has t u ≡ true → has a u ≡ true) → AreFactors g from a t p o2 fs → AreFormed g.vertices k fs
  factors_formed from k a t _ _ _ i low ht AreFactors.none = tt
  factors_formed from k a t _ _ _ i low ht (AreFactors.skip {p = p} {v = v} {o = o2} {fs = fs} q r) =
      factors_formed from k a t (union p (one v)) o2 fs i low ht r
  factors_formed from k a t _ _ _ i low ht (AreFactors.take {p = p} {v = v} {m = m} {o = o2} {fs = fs} q pl r) = (
    factor_formed from k a v m i low (low v (ht v q)) (pillow_in g is_graph o order (λ w. w < g.vertices) a p v m low (ht v q) pl) (λ u e. (pl.sound u e).0)
        (ht v q) (pillow_in g is_graph o order (λ w. has a w ≡ true) a p v m (λ w j. j) (ht v q) pl),
    factors_formed from k a t (union p (one v)) o2 fs i low ht r,
  )

  none_listed : (from : Source) (a t p : ℕ) (o2 : List ℕ) → AreFactors g from a t p o2 no_trees → (u : ℕ) → has t u ≡ true → Among u o2 → ⊥
  none_listed from a t _ _ AreFactors.none u i m = m
  none_listed from a t _ _ (AreFactors.skip {p = p} {v = v} {o = o2} q r) u i m = go m (none_listed from a t (union p (one v)) o2 r u i)
    where
      go : (u ≡ v) ⊎ Among u o2 → (Among u o2 → ⊥) → ⊥
      go (inl e) f = clash (has t v) (rw e at i) q
      go (inr x) f = f x

  one_formed : (k : ℕ) (fs : Trees) → (fs ≡ no_trees → ⊥) → AreFormed g.vertices k fs → IsFormed g.vertices k (as_one fs)
  one_formed k no_trees ne h = absurd (ne refl)
  one_formed k (tree e no_trees) ne h = h.0
  one_formed k (tree e (tree f fs)) ne h = (omega arith, h)

  body_formed : (from : Source) (k a t : ℕ) (e : Tree) → IsEarlier g.vertices a from k → IsSite g from a t → IsBody g o from a t e → IsFormed g.vertices k e
  body_formed from k a t e i s b = rw b.is (one_formed k b.factors
      (λ q. none_listed from a t 0 o (subst (AreFactors g from a t 0 o) q b.are) s.some s.some_in
      (in_list g 0 s.some o order (s.low s.some (s.t_in s.some s.some_in)) (has-zero s.some)))
      (factors_formed from k a t 0 o b.factors i s.low s.t_in b.are))

  -- the definitions of a factor and its expression have their form, and definitions name earlier ones
  pub factor_all : (c a : ℕ) (from : Source) (k : ℕ) (ds : List Tree) (e : Tree) → IsEarlier g.vertices a from k → IsStage g from a c
      → IsFactor g o c a from k ds e → AllFormed g.vertices k ds × IsFormed g.vertices (k + length ds) e
  factor_all c a from k _ e i s (whole d b) = (
    tt,
    formed_more g.vertices k (k + 0) e (omega arith)
        (body_formed from k a c e i (site_of g is_graph o order from a c c s d) b),
  )
  factor_all c a from k _ _ i s (summed {t = t} {e = e} d ne m b) = let q : IsSite g from a t = site_of g is_graph o order from a c t s d in (
    tt,
    (
      below g.vertices (minus t c) (λ u j. q.low u (q.t_in u (and_l (has t u) (not (has c u)) (rw (has-minus t c u) at j)))),
      not_all g is_graph o order t c (λ u j. d.complete u (at j)) (λ z. ne (sym z)),
      formed_more g.vertices k (k + 0) e (omega arith) (body_formed from k a t e i q b),
    ),
  )
  factor_all c a from k _ e i s (further {t = t} {a2 = a2} {b = x} {ds = ds} d ne m ml nc b next) = let q : IsSite g from a t =
      site_of g is_graph o order from a c t s d in
      let r = factor_all c a2 (Source.Defined k) (suc k) ds e (omega arith) (stage_of g is_graph o order from a c t a2 k s d m) next in (
        (
          (
            below g.vertices (minus t a2) (λ u j. q.low u (q.t_in u (and_l (has t u) (not (has a2 u)) (rw (has-minus t a2 u) at j)))),
            not_all g is_graph o order t a2 (λ u j. ancestors_in g is_graph o order c t (λ w z. d.complete w (at z)) u (m.sound u j)) ml,
            body_formed from k a t x i q b,
          ),
          r.0,
        ),
        formed_more g.vertices (suc k + length ds) (k + suc (length ds)) e (omega arith) r.1,
      )

  -- definitions from number k on, and more after those, have their form as one list
  pub all_append : (k : ℕ) (ds es : List Tree) → AllFormed g.vertices k ds → AllFormed g.vertices (k + length ds) es → AllFormed g.vertices k (ds ++ es)
  all_append k [] es h w = subst (λ z. AllFormed g.vertices z es) (omega arith) w
  all_append k (d ∷ ds) es h w = (h.0, all_append (suc k) ds es h.1 (subst (λ z. AllFormed g.vertices z es) (omega arith) w))

  districts_formed : (d k : ℕ) (cs : List ℕ) (ds : List Tree) (fs : Trees) → ((u : ℕ) → has d u ≡ true → u < g.vertices) → AreParts g d cs
      → AreFactored g o k cs ds fs → AllFormed g.vertices k ds × AreFormed g.vertices (k + length ds) fs
  districts_formed d _ _ _ _ low parts AreFactored.none = (tt, tt)
  districts_formed d _ _ _ _ low parts (AreFactored.next {k = k} {c = c} {a = a} {cs = cs} {ds = ds} {es = es} {e = e} {fs = fs} m f r) =
      let x = factor_all c a (Source.Under 0) k ds e ((λ u z. absurd (clash (has 0 u) z (has-zero u))), (λ u z. has-zero u))
      (first_stage g is_graph o order c a (λ u i. low u (parts.0.t_in u i)) parts.0.some parts.0.some_in m) f in
      let y = districts_formed d (k + length ds) cs es fs low parts.1 r in
      let l : length (ds ++ es) ≡ length ds + length es = length-append ds es in (
        all_append k ds es x.0 y.0,
        (
          formed_more g.vertices (k + length ds) (k + length (ds ++ es)) e (omega (arith, l)) x.1,
          formed_more_each g.vertices ((k + length ds) + length es) (k + length (ds ++ es)) fs (omega (arith, l)) y.1,
        ),
      )

  joined_formed : (k : ℕ) (es fs : Trees) → AreFormed g.vertices k es → AreFormed g.vertices k fs → AreFormed g.vertices k (appended es fs)
  joined_formed k no_trees fs h w = w
  joined_formed k (tree e es) fs h w = (h.0, joined_formed k es fs h.1 w)

  flat_formed : (k : ℕ) (fs : Trees) → AreFormed g.vertices k fs → AreFormed g.vertices k (flat fs)
  flat_formed k no_trees h = tt
  flat_formed k (tree (product es) fs) h = joined_formed k es (flat fs) h.0.1 (flat_formed k fs h.1)
  flat_formed k (tree (prob a b c) fs) h = (h.0, flat_formed k fs h.1)
  flat_formed k (tree (sum u e) fs) h = (h.0, flat_formed k fs h.1)
  flat_formed k (tree (quotient p q) fs) h = (h.0, flat_formed k fs h.1)
  flat_formed k (tree (named j) fs) h = (h.0, flat_formed k fs h.1)

  count-joined : (es fs : Trees) → count_factors (appended es fs) ≡ count_factors es + count_factors fs
  count-joined no_trees fs = omega arith
  count-joined (tree e es) fs = let h : count_factors (appended es fs) ≡ count_factors es + count_factors fs = count-joined es fs in omega (arith, h)

  count-flat : (k : ℕ) (fs : Trees) → AreFormed g.vertices k fs → count_factors fs ≤ count_factors (flat fs)
  count-flat k no_trees h = omega arith
  count-flat k (tree (product es) fs) h = let r : count_factors fs ≤ count_factors (flat fs) = count-flat k fs h.1 in
      let l : count_factors (appended es (flat fs)) ≡ count_factors es + count_factors (flat fs) = count-joined es (flat fs) in let t : 2 ≤ count_factors es =
      h.0.0 in omega (arith, r, l, t)
  count-flat k (tree (prob a b c) fs) h = let r : count_factors fs ≤ count_factors (flat fs) = count-flat k fs h.1 in omega (arith, r)
  count-flat k (tree (sum u e) fs) h = let r : count_factors fs ≤ count_factors (flat fs) = count-flat k fs h.1 in omega (arith, r)
  count-flat k (tree (quotient p q) fs) h = let r : count_factors fs ≤ count_factors (flat fs) = count-flat k fs h.1 in omega (arith, r)
  count-flat k (tree (named j) fs) h = let r : count_factors fs ≤ count_factors (flat fs) = count-flat k fs h.1 in omega (arith, r)

  -- the product of one factor or more has its form where each factor does
  pub product_formed : (k : ℕ) (fs : Trees) → (fs ≡ no_trees → ⊥) → AreFormed g.vertices k fs → IsFormed g.vertices k (product_of fs)
  product_formed k no_trees ne h = absurd (ne refl)
  product_formed k (tree e no_trees) ne h = h.0
  product_formed k (tree e (tree f fs)) ne h = (
    let r : count_factors (tree e (tree f fs)) ≤ count_factors (flat (tree e (tree f fs))) =
        count-flat k (tree e (tree f fs)) h in omega (arith, r),
    flat_formed k (tree e (tree f fs)) h,
  )

  no_districts : (k : ℕ) (cs : List ℕ) (ds : List Tree) → AreFactored g o k cs ds no_trees → cs ≡ []
  no_districts _ _ _ AreFactored.none = refl

module _ (g : MixedGraph) (is_graph : IsMixedGraph g) (o : List ℕ) (order : IsOrderFrom g 0 o) (x y : ℕ) (tgt : IsTarget g x y) (f : PlainFormula)
    (made : IsComposed g o x y f) where
  some_in : has made.split.d tgt.some ≡ true
  some_in = made.split.is_d.complete tgt.some
      (record { vertex = tgt.y_low tgt.some tgt.some_in; path = []; end = tgt.some; leads = refl; inside = tgt.some_in })

  -- the composed formula has its form
  pub composed_formed : IsFormedFormula g.vertices f
  composed_formed = let h = districts_formed g is_graph o order made.split.d 0 made.split.districts f.defs made.factors
      (d_low g is_graph o order x y tgt made.split.d made.split.is_d)
      (are_parts g is_graph made.split.d 0 o made.split.districts made.split.are_districts) made.are_factored in (
        h.0,
        rw made.main (sum_formed g is_graph o order (minus made.split.d y) (length f.defs) (product_of made.factors)
            (λ u e. (d_low g is_graph o order x y tgt made.split.d made.split.is_d) u
            (and_l (has made.split.d u) (not (has y u)) (rw (has-minus made.split.d y u) at e)))
            (product_formed g is_graph o order (length f.defs) made.factors some_factor
            (formed_more_each g.vertices (0 + length f.defs) (length f.defs) made.factors (omega arith) h.1))),
      )
    where
      some_factor : made.factors ≡ no_trees → ⊥
      some_factor q = absurd (let c : count made.split.districts tgt.some ≡ 1 =
          once g is_graph made.split.d o made.split.districts made.split.are_districts tgt.some some_in
          (in_list g 0 tgt.some o order ((d_low g is_graph o order x y tgt made.split.d made.split.is_d) tgt.some some_in) (has-zero tgt.some)) in
          let e : made.split.districts ≡ [] = no_districts g is_graph o order 0 made.split.districts f.defs
          (subst (AreFactored g o 0 made.split.districts f.defs) q made.are_factored) in
          let z : 0 ≡ 1 = rw e at c in omega (arith, z))
