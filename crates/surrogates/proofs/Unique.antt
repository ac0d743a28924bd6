-- The formula over experiments is fixed, and so is where the procedure stops.
use Rattle.std.proofs.Common.{ℕ, ◌+◌, ◌≡◌, true, eqb, refl, sym, ap₂, subst, ◌∙◌, ◌⊎◌, inl, inr, List, [], ◌∷◌, ◌++◌, length, eqb-true}
use Rattle.identification_theory.proofs.Bools.{clash, or_e}
use Rattle.identification_theory.proofs.Orders.{one_order}
use Rattle.identification_theory.specs.Vocabulary.{IsFactor, IsStopped, Source, Split, product_of, sum_if}
use Rattle.identification_theory.proofs.Unique.{factor_one, made_or_stopped, one_set, split_one, stopped_one}
use Rattle.mixed_graph.specs.Vocabulary.{MixedGraph, IsOrder, is_apart, minus}
use Rattle.prob_expr.specs.Vocabulary.{is_listed, PlainFormula, Trees}
use Rattle.prob_expr.specs.Tree.{Tree, prob, tree}
use Rattle.surrogates.proofs.Rooms.{Chosen, chosen}
use Rattle.surrogates.specs.Surrogates.{without, ComesFirst, IsFactorUnder, IsStoppedUnder, AllStop, AreFactoredWith, IsComposedOver, IsSurrogate}
use Rattle.surrogates.specs.Surrogates.{StopsWith, IsStoppedWith, IsFirstBlocked, IsFirstBlockedFor}

-- two lists of definitions with an expression each are the same
record Both (ds es : List Tree) (e f : Tree) : Type 0 where
  defs : ds ≡ es
  main : e ≡ f

record All (ds es : List Tree) (fs hs : Trees) : Type 0 where
  defs : ds ≡ es
  factors : fs ≡ hs

module _ (g : MixedGraph) where
  factor_same : (z c k : ℕ) (ds es : List Tree) (e f : Tree) → IsFactorUnder g z c k ds e → IsFactorUnder g z c k es f → Both ds es e f
  factor_same z c k ds es e f t u = let s = factor_one (without g z) t.order c t.a (Source.Under z) k ds e es f t.factor
      (subst (λ b. IsFactor (without g z) t.order c b (Source.Under z) k es f) (one_set u.a t.a _ u.ancestors t.ancestors)
      (subst (λ o. IsFactor (without g z) o c u.a (Source.Under z) k es f) (one_order (without g z) u.order t.order u.is_order t.is_order) u.factor)) in
      record { defs = s.defs; main = s.main }

  -- a factor and a stop under one intervention exclude each other
  pub factor_or_stop : (z c k : ℕ) (ds : List Tree) (e : Tree) (big : ℕ) → IsFactorUnder g z c k ds e → IsStoppedUnder g z c big → ⊥
  factor_or_stop z c k ds e big t s = made_or_stopped (without g z) t.order c t.a (Source.Under z) k ds e big t.factor
      (subst (λ b. IsStopped (without g z) c b big) (one_set s.a t.a _ s.ancestors t.ancestors) s.stop)

  first_same : (c k z w : ℕ) (ds es : List Tree) (e f : Tree) (l : List ℕ) → ComesFirst g c z l → IsFactorUnder g z c k ds e → ComesFirst g c w l
      → IsFactorUnder g w c k es f → Both ds es e f
  first_same c k z _ ds es e f _ (ComesFirst.here a) t (ComesFirst.here b) u = factor_same z c k ds es e f t u
  first_same c k z w ds es e f _ (ComesFirst.here a) t (ComesFirst.meets b r) u = absurd (clash (is_apart z c) a b)
  first_same c k z w ds es e f _ (ComesFirst.here a) t (ComesFirst.stops {big = big} b s r) u = absurd (factor_or_stop z c k ds e big t s)
  first_same c k z w ds es e f _ (ComesFirst.meets b r) t (ComesFirst.here a) u = absurd (clash (is_apart w c) a b)
  first_same c k z w ds es e f _ (ComesFirst.meets {zs = zs} a r) t (ComesFirst.meets b s) u = first_same c k z w ds es e f zs r t s u
  first_same c k z w ds es e f _ (ComesFirst.meets {w = v} a r) t (ComesFirst.stops b s q) u = absurd (clash (is_apart v c) b a)
  first_same c k z w ds es e f _ (ComesFirst.stops {big = big} b s r) t (ComesFirst.here a) u = absurd (factor_or_stop w c k es f big u s)
  first_same c k z w ds es e f _ (ComesFirst.stops {w = v} a s r) t (ComesFirst.meets b q) u = absurd (clash (is_apart v c) a b)
  first_same c k z w ds es e f _ (ComesFirst.stops {zs = zs} a s r) t (ComesFirst.stops b p q) u = first_same c k z w ds es e f zs r t q u

  all_same : (zs : List ℕ) (k : ℕ) (cs : List ℕ) (ds es : List Tree) (fs hs : Trees) → AreFactoredWith g zs k cs ds fs → AreFactoredWith g zs k cs es hs
      → All ds es fs hs
  all_same zs k _ _ _ _ _ AreFactoredWith.none AreFactoredWith.none = record { defs = refl; factors = refl }
  all_same zs k _ _ _ _ _ (AreFactoredWith.next {c = c} {z = z} {cs = cs} {ds = ds} {es = xs} {e = e} {fs = fs} h t r)
      (AreFactoredWith.next {z = w} {ds = ds2} {es = ys} {e = f} {fs = hs} h2 t2 r2) =
      let s : Both ds ds2 e f = first_same c k z w ds ds2 e f (0 ∷ zs) h t h2 t2 in
      let rest : All xs ys fs hs = all_same zs (k + length ds) cs xs ys fs hs r (subst (λ d. AreFactoredWith g zs (k + length d) cs ys hs) (sym s.defs) r2) in
      record { defs = ap₂ (λ a b. a ++ b) s.defs rest.defs; factors = ap₂ tree s.main rest.factors }

  -- a factor under what comes first and a stop of all exclude each other
  first_or_stopped : (zs : List ℕ) (c k z : ℕ) (ds : List Tree) (e : Tree) (big : ℕ) → ComesFirst g c z (0 ∷ zs) → IsFactorUnder g z c k ds e
      → IsStoppedUnder g 0 c big → AllStop g c zs → ⊥
  first_or_stopped zs c k z ds e big h t s l = go (or_e (eqb z 0) (is_listed z zs) q.listed)
    where
      q : Chosen c z (0 ∷ zs)
      q = chosen g c z (0 ∷ zs) h

      go : (eqb z 0 ≡ true) ⊎ (is_listed z zs ≡ true) → ⊥
      go (inl i) = factor_or_stop z c k ds e big t (subst (λ w. IsStoppedUnder g w c big) (sym (eqb-true z 0 i)) s)
      go (inr i) = let p : (b : ℕ) × IsStoppedUnder g z c b = l z i q.off in factor_or_stop z c k ds e p.0 t p.1

  -- two places where it stops are one
  stops_same : (zs : List ℕ) (k : ℕ) (cs : List ℕ) (small big small2 big2 : ℕ) → StopsWith g zs k cs small big → StopsWith g zs k cs small2 big2
      → (small ≡ small2) × (big ≡ big2)
  stops_same zs k _ _ big _ big2 (StopsWith.first {c = c} s l) (StopsWith.first t m) = (
    refl,
    stopped_one (without g 0) [] c s.a big big2 s.stop (subst (λ b. IsStopped (without g 0) c b big2) (one_set t.a s.a _ t.ancestors s.ancestors)
        t.stop),
  )
  stops_same zs k _ _ big small2 big2 (StopsWith.first {c = c} s l) (StopsWith.after {z = z} {ds = ds} {e = e} h t r) =
      absurd (first_or_stopped zs c k z ds e big h t s l)
  stops_same zs k _ small big _ big2 (StopsWith.after {c = c} {z = z} {ds = ds} {e = e} h t r) (StopsWith.first s l) =
      absurd (first_or_stopped zs c k z ds e big2 h t s l)
  stops_same zs k _ small big small2 big2 (StopsWith.after {c = c} {z = z} {cs = cs} {ds = ds} {e = e} h t r)
      (StopsWith.after {z = w} {ds = ds2} {e = f} h2 t2 r2) =
      let q : Both ds ds2 e f = first_same c k z w ds ds2 e f (0 ∷ zs) h t h2 t2 in
      stops_same zs (k + length ds) cs small big small2 big2 r (subst (λ d. StopsWith g zs (k + length d) cs small2 big2) (sym q.defs) r2)

  -- of one list the first blocked district is one
  first_blocked_same : (zs : List ℕ) (c e : ℕ) (cs : List ℕ) → IsFirstBlocked g zs c cs → IsFirstBlocked g zs e cs → c ≡ e
  first_blocked_same zs c _ _ (IsFirstBlocked.here b) (IsFirstBlocked.here d) = refl
  first_blocked_same zs c e _ (IsFirstBlocked.here b) (IsFirstBlocked.after n r) = absurd (n b)
  first_blocked_same zs c e _ (IsFirstBlocked.after n r) (IsFirstBlocked.here d) = absurd (n d)
  first_blocked_same zs c e _ (IsFirstBlocked.after {cs = cs} n r) (IsFirstBlocked.after m s) = first_blocked_same zs c e cs r s

module _ (g : MixedGraph) (x y : ℕ) where
  -- what leads to y is split in one way
  pub same_districts : (o p : List ℕ) → IsOrder g o (length o) → IsOrder g p (length p) → (s : Split g o x y) (t : Split g p x y)
      → t.districts ≡ s.districts
  same_districts o p io ip s t = subst (λ q. (r : Split g q x y) → r.districts ≡ s.districts) (one_order g o p io ip)
      (λ r. sym (split_one g o x y s r).1) t

  module _ (zs : List ℕ) where
    composed_one : (o p : List ℕ) (f h : PlainFormula) → IsOrder g o (length o) → IsOrder g p (length p) → IsComposedOver g o zs x y f
        → IsComposedOver g p zs x y h → f ≡ h
    composed_one o p f h io ip t u = formula_same f h same.defs (t.main
        ∙ (ap₂ (λ a b. sum_if (minus a y) (product_of b)) (one_set t.split.d u.split.d _ t.split.is_d u.split.is_d) same.factors ∙ sym u.main))
      where
        formula_same : (f h : PlainFormula) → f.defs ≡ h.defs → f.main ≡ h.main → f ≡ h
        formula_same f h p q = ap₂ (λ a b. record { defs = a; main = b }) p q

        same : All f.defs h.defs t.factors u.factors
        same = all_same g zs 0 t.split.districts f.defs h.defs t.factors u.factors t.are_factored
            (subst (λ z. AreFactoredWith g zs 0 z h.defs u.factors) (same_districts o p io ip t.split u.split) u.are_factored)

    pub surrogate_one : (f h : PlainFormula) → IsSurrogate g zs x y f → IsSurrogate g zs x y h → f ≡ h
    surrogate_one f h s t = go s.answer t.answer
      where
        go : ((x ≡ 0) × (f ≡ record { defs = []; main = prob y 0 0 })) ⊎ ((x ≡ 0 → ⊥) × IsComposedOver g s.order zs x y f)
            → ((x ≡ 0) × (h ≡ record { defs = []; main = prob y 0 0 })) ⊎ ((x ≡ 0 → ⊥) × IsComposedOver g t.order zs x y h) → f ≡ h
        go (inl a) (inl b) = a.1 ∙ sym b.1
        go (inl a) (inr b) = absurd (b.0 a.0)
        go (inr a) (inl b) = absurd (a.0 b.0)
        go (inr a) (inr b) = composed_one s.order t.order f h s.is_order t.is_order a.1 b.1

    pub stop_same : (small big small2 big2 : ℕ) → IsStoppedWith g zs x y small big → IsStoppedWith g zs x y small2 big2 → (small ≡ small2) × (big ≡ big2)
    stop_same small big small2 big2 s u = stops_same g zs 0 s.split.districts small big small2 big2 s.stops
        (subst (λ z. StopsWith g zs 0 z small2 big2) (same_districts s.order u.order s.is_order u.is_order s.split u.split) u.stops)

    -- at most one district is the first that is blocked
    pub first_blocked_one : (c e : ℕ) → IsFirstBlockedFor g zs x y c → IsFirstBlockedFor g zs x y e → c ≡ e
    first_blocked_one c e b d = first_blocked_same g zs c e b.split.districts b.first (subst (IsFirstBlocked g zs e)
        (same_districts b.order d.order b.is_order d.is_order b.split d.split) d.first)
