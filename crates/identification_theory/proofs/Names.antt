-- The formula of identification names ancestors of y alone.
use Rattle.std.proofs.Common.{ℕ, suc, ◌+◌, ◌≡◌, ◌<◌, Bool, true, false, cond, eqb, not, refl, ◌&&◌, ◌⊎◌, inl, inr, List, [], ◌∷◌, ◌++◌, length, eqb-true}
use Rattle.hedge.specs.Vocabulary.{at, by, IsLinked}
use Rattle.do_derivation.specs.Vocabulary.{as_one, flat, appended}
use Rattle.identification_theory.proofs.Accepted.{first_stage}
use Rattle.identification_theory.proofs.Body.{IsSite}
use Rattle.identification_theory.proofs.Bools.{and_l, clash, or_e}
use Rattle.identification_theory.proofs.Factor.{IsStage, ancestors_in, stage_of, site_of}
use Rattle.identification_theory.proofs.Front.{closed_above}
use Rattle.identification_theory.proofs.Groups.{AreParts, are_parts}
use Rattle.identification_theory.proofs.Orders.{IsOrderFrom}
use Rattle.identification_theory.proofs.Sets.{has-minus, one-is}
use Rattle.identification_theory.specs.Procedure.IsFactor.{whole, summed, further}
use Rattle.identification_theory.specs.Procedure.{AreAncestorsIn, AreFactored, AreFactors, IsBody, IsComposed, IsFactor, IsParent, IsPillow, IsTarget}
use Rattle.identification_theory.specs.Procedure.{Source, conditional, marginal, product_of, sum_if}
use Rattle.identification_theory.specs.Names.{AllNameOnly, AreAll, EachNamesOnly, FormulaNamesOnly, NamesOnly}
use Rattle.mixed_graph.proofs.Masks.{has-and, has-or, has-zero}
use Rattle.mixed_graph.specs.Vocabulary.{has, IsAncestor, IsDirectedPath, IsMixedGraph, MixedGraph, induced, all, is_empty, union, minus, one, common}
use Rattle.prob_expr.specs.Tree.{Tree, named, prob, product, quotient, sum, tree}
use Rattle.prob_expr.specs.Vocabulary.{PlainFormula, Trees, no_trees}

module _ (g : MixedGraph) (is_graph : IsMixedGraph g) (o : List ℕ) (order : IsOrderFrom g 0 o) (z : ℕ → Type 0) where
  less : (a b : ℕ) → AreAll z a → AreAll z (minus a b)
  less a b h u e = h u (and_l (has a u) (not (has b u)) (rw (has-minus a b u) at e))

  sum_in : (s : ℕ) (e : Tree) → AreAll z s → NamesOnly z e → NamesOnly z (sum_if s e)
  sum_in s e h k = go (is_empty s)
    where
      go : (b : Bool) → NamesOnly z (cond b e (sum s e))
      go true = k
      go false = (h, k)

  -- what the intervention of a source sets is named
  abbrev IsNamed : Source → Type 0
  IsNamed (Source.Under w) = AreAll z w
  IsNamed (Source.Defined k) = Unit {0}

  factor_in : (from : Source) (a v m : ℕ) → IsNamed from → AreAll z a → z v → AreAll z m → NamesOnly z (conditional from a v m)
  factor_in (Source.Under w) a v m hw ha hv hm = (λ u e. rw (one-is v u e) hv, hw, hm)
  factor_in (Source.Defined k) a v m hw ha hv hm = go (is_empty m)
    where
      go : (b : Bool) → NamesOnly z (cond b (marginal k a (one v)) (quotient (marginal k a (union m (one v))) (marginal k a m)))
      go true = sum_in (minus a (one v)) (named k) (less a (one v) ha) tt
      go false = (sum_in (minus a (union m (one v))) (named k) (less a (union m (one v)) ha) tt, sum_in (minus a m) (named k) (less a m ha) tt)

  pub pillow_in : (a p v m : ℕ) → AreAll z a → has a v ≡ true → IsPillow g (union (common a p) (one v)) v m → AreAll z m
  pillow_in a p v m ha iv pl u e = go (pl.sound u e)
    where
      in_s : has (union (common a p) (one v)) u ≡ true → z u
      in_s i = pick (or_e (has (common a p) u) (has (one v) u) (rw (has-or (common a p) (one v) u) at i))
        where
          pick : (has (common a p) u ≡ true) ⊎ (has (one v) u ≡ true) → z u
          pick (inl j) = ha u (and_l (has a u) (has p u) (rw (has-and a p u) at j))
          pick (inr j) = rw (one-is v u j) (ha v iv)

      linked : IsLinked g (has (union (common a p) (one v))) (λ w. eqb w v) u → z u
      linked (at q) = rw (eqb-true u v q) (ha v iv)
      linked (by i b r) = in_s i

      go : (u ≡ v → ⊥) × (IsLinked g (has (union (common a p) (one v))) (λ w. eqb w v) u
          ⊎ ((has (union (common a p) (one v)) u ≡ true) × IsParent g (IsLinked g (has (union (common a p) (one v))) (λ w. eqb w v)) u)) → z u
      go (ne, inl d) = linked d
      go (ne, inr d) = in_s d.0

  factors_in : (from : Source) (a t p : ℕ) (o2 : List ℕ) (fs : Trees) → IsNamed from → AreAll z a → ((u : ℕ) → has t u ≡ true → has a u ≡ true)
      → AreFactors g from a t p o2 fs → EachNamesOnly z fs
  factors_in from a t _ _ _ hw ha ht AreFactors.none = tt
  factors_in from a t _ _ _ hw ha ht (AreFactors.skip {p = p} {v = v} {o = o2} {fs = fs} q r) = factors_in from a t (union p (one v)) o2 fs hw ha ht r
  factors_in from a t _ _ _ hw ha ht (AreFactors.take {p = p} {v = v} {m = m} {o = o2} {fs = fs} q pl r) =
      (factor_in from a v m hw ha (ha v (ht v q)) (pillow_in a p v m ha (ht v q) pl), factors_in from a t (union p (one v)) o2 fs hw ha ht r)

  one_in : (fs : Trees) → EachNamesOnly z fs → NamesOnly z (as_one fs)
  one_in no_trees h = tt
  one_in (tree e no_trees) h = h.0
  one_in (tree e (tree f fs)) h = h

  body_in : (from : Source) (a t : ℕ) (e : Tree) → IsNamed from → AreAll z a → ((u : ℕ) → has t u ≡ true → has a u ≡ true) → IsBody g o from a t e
      → NamesOnly z e
  body_in from a t e hw ha ht b = rw b.is (one_in b.factors (factors_in from a t 0 o b.factors hw ha ht b.are))

  names_of : (c a : ℕ) (from : Source) (k : ℕ) (ds : List Tree) (e : Tree) → IsNamed from → IsStage g from a c → AreAll z a → IsFactor g o c a from k ds e
      → AllNameOnly z ds × NamesOnly z e
  names_of c a from k _ e hw s ha (whole d b) = (tt, body_in from a c e hw ha s.c_in b)
  names_of c a from k _ _ hw s ha (summed {t = t} {e = e} d ne n b) = let q : IsSite g from a t = site_of g is_graph o order from a c t s d in
      (tt, (less t c (λ u i. ha u (q.t_in u i)), body_in from a t e hw ha q.t_in b))
  names_of c a from k _ e hw s ha (further {t = t} {a2 = a2} {b = x} {ds = ds} d ne n m r b next) = let q : IsSite g from a t =
      site_of g is_graph o order from a c t s d in
      let h = names_of c a2 (Source.Defined k) (suc k) ds e tt (stage_of g is_graph o order from a c t a2 k s d n)
      (λ u i. ha u (q.t_in u (ancestors_in g is_graph o order c t (λ w j. d.complete w (at j)) u (n.sound u i)))) next in
      (((less t a2 (λ u i. ha u (q.t_in u i)), body_in from a t x hw ha q.t_in b), h.0), h.1)

  all_append : (ds es : List Tree) → AllNameOnly z ds → AllNameOnly z es → AllNameOnly z (ds ++ es)
  all_append [] es h k = k
  all_append (d ∷ ds) es h k = (h.0, all_append ds es h.1 k)

  names_all : (d k : ℕ) (cs : List ℕ) (ds : List Tree) (fs : Trees) → ((u : ℕ) → has d u ≡ true → u < g.vertices)
      → ((c a : ℕ) → ((u : ℕ) → has c u ≡ true → has d u ≡ true) → AreAncestorsIn g (all g.vertices) c a → AreAll z a)
      → AreParts g d cs → AreFactored g o k cs ds fs → AllNameOnly z ds × EachNamesOnly z fs
  names_all d _ _ _ _ low up parts AreFactored.none = (tt, tt)
  names_all d _ _ _ _ low up parts (AreFactored.next {k = k} {c = c} {a = a} {cs = cs} {ds = ds} {es = es} {e = e} {fs = fs} n f r) =
      let q = names_of c a (Source.Under 0) k ds e (λ u i. absurd (clash (has 0 u) i (has-zero u)))
      (first_stage g is_graph o order c a (λ u i. low u (parts.0.t_in u i)) parts.0.some parts.0.some_in n) (up c a parts.0.t_in n) f in
      let w = names_all d (k + length ds) cs es fs low up parts.1 r in (all_append ds es q.0 w.0, (q.1, w.1))

  joined_in : (es fs : Trees) → EachNamesOnly z es → EachNamesOnly z fs → EachNamesOnly z (appended es fs)
  joined_in no_trees fs h k = k
  joined_in (tree e es) fs h k = (h.0, joined_in es fs h.1 k)

  flat_in : (fs : Trees) → EachNamesOnly z fs → EachNamesOnly z (flat fs)
  flat_in no_trees h = tt
  flat_in (tree (product es) fs) h = joined_in es (flat fs) h.0 (flat_in fs h.1)
  flat_in (tree (prob a b c) fs) h = (h.0, flat_in fs h.1)
  flat_in (tree (sum u e) fs) h = (h.0, flat_in fs h.1)
  flat_in (tree (quotient p q) fs) h = (h.0, flat_in fs h.1)
  flat_in (tree (named k) fs) h = (tt, flat_in fs h.1)

  product_in : (fs : Trees) → EachNamesOnly z fs → NamesOnly z (product_of fs)
  product_in no_trees h = tt
  product_in (tree e no_trees) h = h.0
  product_in (tree e (tree f fs)) h = flat_in (tree e (tree f fs)) h

module _ (g : MixedGraph) (is_graph : IsMixedGraph g) (o : List ℕ) (order : IsOrderFrom g 0 o) (x y : ℕ) (z : ℕ → Type 0) (tgt : IsTarget g x y)
    (y_in : (u : ℕ) → has y u ≡ true → z u) (closed : (p u : ℕ) → g.arrow p u ≡ true → z u → z p) (f : PlainFormula) (made : IsComposed g o x y f) where
  d_in : (u : ℕ) → has made.split.d u ≡ true → z u
  d_in u e = closed_above (induced g (has (minus (all g.vertices) x))) (λ w. z w) (has y)
      (λ p w a i. closed p w (and_l (g.arrow p w) (has (minus (all g.vertices) x) p && has (minus (all g.vertices) x) w) a) i) y_in u
      (made.split.is_d.sound u e)

  d_low : (u : ℕ) → has made.split.d u ≡ true → u < g.vertices
  d_low u e = go u r.path r.leads
    where
      r : IsAncestor (induced g (has (minus (all g.vertices) x))) (has y) u
      r = made.split.is_d.sound u e

      go : (u : ℕ) (xs : List ℕ) → IsDirectedPath (induced g (has (minus (all g.vertices) x))) u xs r.end → u < g.vertices
      go u [] p = tgt.y_low u (rw p r.inside)
      go u (w ∷ xs) p = is_graph.tail_below u w (and_l (g.arrow u w) (has (minus (all g.vertices) x) u && has (minus (all g.vertices) x) w) p.0)

  -- the formula names only members of a set that holds y and its members' parents
  pub composed_names : FormulaNamesOnly z f
  composed_names = let h = names_all g is_graph o order z made.split.d 0 made.split.districts f.defs made.factors d_low up
      (are_parts g is_graph made.split.d 0 o made.split.districts made.split.are_districts) made.are_factored in (
        h.0,
        rw made.main (sum_in g is_graph o order z (minus made.split.d y) (product_of made.factors) (less g is_graph o order z made.split.d y d_in)
            (product_in g is_graph o order z made.factors h.1)),
      )
    where
      up : (c a : ℕ) → ((u : ℕ) → has c u ≡ true → has made.split.d u ≡ true) → AreAncestorsIn g (all g.vertices) c a → AreAll z a
      up c a within n u e = closed_above (induced g (has (all g.vertices))) (λ w. z w) (has c)
          (λ p w b i. closed p w (and_l (g.arrow p w) (has (all g.vertices) p && has (all g.vertices) w) b) i) (λ w i. d_in w (within w i)) u (n.sound u e)

-- the ancestors of y are such a set
pub names_ancestors : (g : MixedGraph) (is_graph : IsMixedGraph g) (o : List ℕ) (order : IsOrderFrom g 0 o) (x y : ℕ) (tgt : IsTarget g x y)
    (f : PlainFormula) (made : IsComposed g o x y f) → FormulaNamesOnly (IsAncestor g (has y)) f
names_ancestors g is_graph o order x y tgt f made = composed_names g is_graph o order x y (IsAncestor g (has y)) tgt
    (λ u e. record { vertex = tgt.y_low u e; path = []; end = u; leads = refl; inside = e })
    (λ p u a i. record { vertex = is_graph.tail_below p u a; path = u ∷ i.path; end = i.end; leads = (a, i.leads); inside = i.inside }) f made
