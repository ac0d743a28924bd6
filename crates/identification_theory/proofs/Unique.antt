-- Identification makes one formula, or stops at one place, never both.
use Rattle.std.proofs.Common.{ℕ, suc, ◌+◌, ◌≡◌, Bool, true, false, refl, sym, ap, ap₂, subst, ◌∙◌, ◌⊎◌, inl, inr, List, ◌∷◌, ◌++◌, length, arith}
use Rattle.hedge.specs.Vocabulary.{AreDistricts, IsSetOf}
use Rattle.do_derivation.specs.Vocabulary.{as_one}
use Rattle.identification_theory.proofs.Bools.{clash}
use Rattle.identification_theory.specs.Procedure.IsFactor.{whole, summed, further}
use Rattle.identification_theory.specs.Procedure.IsStopped.{here, later}
use Rattle.identification_theory.specs.Procedure.{AreAncestorsIn, AreFactored, AreFactors, IsBody, IsComposed, IsFactor, IsStopped, IsUnidentifiedBy}
use Rattle.identification_theory.specs.Procedure.{Source, Split, StopsAt, conditional, product_of, sum_if}
use Rattle.mixed_graph.proofs.Masks.{same_from_has}
use Rattle.mixed_graph.specs.Vocabulary.{has, MixedGraph, union, minus, one}
use Rattle.prob_expr.specs.Tree.{Tree, sum, tree}
use Rattle.prob_expr.specs.Vocabulary.{PlainFormula, Trees}

-- masks of the same vertices are the same number
pub one_set : (a b : ℕ) (P : ℕ → Type 0) → IsSetOf a P → IsSetOf b P → a ≡ b
one_set a b P h k = same_from_has a b (λ v. go (has a v) (has b v) (λ e. k.complete v (h.sound v e)) (λ e. h.complete v (k.sound v e)))
  where
    go : (p q : Bool) → (p ≡ true → q ≡ true) → (q ≡ true → p ≡ true) → p ≡ q
    go p q h1 h2 = grind (arith, h1, h2)

module _ (g : MixedGraph) (o : List ℕ) where
  factors_one : (from : Source) (a t p : ℕ) (o2 : List ℕ) (fs gs : Trees) → AreFactors g from a t p o2 fs → AreFactors g from a t p o2 gs → fs ≡ gs
  factors_one from a t _ _ _ _ AreFactors.none AreFactors.none = refl
  factors_one from a t _ _ _ _ (AreFactors.skip {p = p} {v = v} {o = o2} {fs = fs} q r) (AreFactors.skip {fs = gs} q2 r2) =
      factors_one from a t (union p (one v)) o2 fs gs r r2
  factors_one from a t _ _ _ _ (AreFactors.skip {v = v} q r) (AreFactors.take q2 pl r2) = absurd (clash (has t v) q2 q)
  factors_one from a t _ _ _ _ (AreFactors.take {v = v} q pl r) (AreFactors.skip q2 r2) = absurd (clash (has t v) q q2)
  factors_one from a t _ _ _ _ (AreFactors.take {p = p} {v = v} {m = m} {o = o2} {fs = fs} q pl r) (AreFactors.take {m = m2} {fs = gs} q2 pl2 r2) =
      ap₂ tree (ap (conditional from a v) (one_set m m2 _ pl pl2)) (factors_one from a t (union p (one v)) o2 fs gs r r2)

  body_one : (from : Source) (a t : ℕ) (e f : Tree) → IsBody g o from a t e → IsBody g o from a t f → e ≡ f
  body_one from a t e f b c = b.is ∙ (ap as_one (factors_one from a t 0 o b.factors c.factors b.are c.are) ∙ sym c.is)

  pub record Same (ds : List Tree) (e : Tree) (es : List Tree) (f : Tree) : Type 0 where
    pub defs : ds ≡ es
    pub main : e ≡ f

  -- a factor has at most one list of definitions and one expression
  pub factor_one : (c a : ℕ) (from : Source) (k : ℕ) (ds : List Tree) (e : Tree) (es : List Tree) (f : Tree) → IsFactor g o c a from k ds e
      → IsFactor g o c a from k es f → Same ds e es f
  factor_one c a from k _ e _ f (whole d b) (whole d2 b2) = record { defs = refl; main = body_one from a c e f b b2 }
  factor_one c a from k _ e _ _ (whole d b) (summed {t = t} d2 ne n b2) = absurd (ne (one_set t c _ d2 d))
  factor_one c a from k _ e _ f (whole d b) (further {t = t} d2 ne n m q b2 r) = absurd (ne (one_set t c _ d2 d))
  factor_one c a from k _ _ _ f (summed {t = t} d ne n b) (whole d2 b2) = absurd (ne (one_set t c _ d d2))
  factor_one c a from k _ _ _ _ (summed {t = t} {e = e} d ne n b) (summed {t = t2} {e = f} d2 ne2 n2 b2) = let s : t ≡ t2 = one_set t t2 _ d d2 in
      record { defs = refl; main = ap₂ (λ x y. sum (minus x c) y) s (body_one from a t e f b (subst (λ x. IsBody g o from a x f) (sym s) b2)) }
  factor_one c a from k _ _ _ f (summed {t = t} d ne n b) (further {t = t2} {a2 = a2} d2 ne2 n2 m q b2 r) =
      absurd (q (one_set a2 c _ n2 (subst (λ x. AreAncestorsIn g x c c) (one_set t t2 _ d d2) n)))
  factor_one c a from k _ e _ f (further {t = t} d ne n m q b r) (whole d2 b2) = absurd (ne (one_set t c _ d d2))
  factor_one c a from k _ e _ _ (further {t = t} {a2 = a2} d ne n m q b r) (summed {t = t2} d2 ne2 n2 b2) =
      absurd (q (one_set a2 c _ n (subst (λ x. AreAncestorsIn g x c c) (one_set t2 t _ d2 d) n2)))
  factor_one c a from k _ e _ f (further {t = t} {a2 = a2} {b = x} {ds = ds} d ne n m q b r)
      (further {t = t2} {a2 = a3} {b = y} {ds = es} d2 ne2 n2 m2 q2 b2 r2) =
      let s : t ≡ t2 = one_set t t2 _ d d2 in let s2 : a2 ≡ a3 = one_set a2 a3 _ n (subst (λ z. AreAncestorsIn g z c a3) (sym s) n2) in
      let rest = factor_one c a2 (Source.Defined k) (suc k) ds e es f r (subst (λ z. IsFactor g o c z (Source.Defined k) (suc k) es f) (sym s2) r2) in
      record {
        defs = ap₂ (λ u w. u ∷ w) (ap₂ sum (ap₂ minus s s2) (body_one from a t x y b (subst (λ z. IsBody g o from a z y) (sym s) b2))) rest.defs;
        main = rest.main;
      }

  -- a factor that is made doesn't stop
  pub made_or_stopped : (c a : ℕ) (from : Source) (k : ℕ) (ds : List Tree) (e : Tree) (big : ℕ) → IsFactor g o c a from k ds e → IsStopped g c a big → ⊥
  made_or_stopped c a from k _ e big (whole d b) (here d2 ne n) = ne (one_set big c _ d2 d)
  made_or_stopped c a from k _ e big (whole d b) (later {t = t} d2 ne n m q r) = ne (one_set t c _ d2 d)
  made_or_stopped c a from k _ _ big (summed {t = t} d ne n b) (here d2 ne2 n2) =
      ne (one_set t c _ (subst (λ x. AreAncestorsIn g x c x) (one_set big t _ d2 d) n2) n)
  made_or_stopped c a from k _ _ big (summed {t = t} d ne n b) (later {t = t2} {a2 = a2} d2 ne2 n2 m q r) =
      q (one_set a2 c _ n2 (subst (λ x. AreAncestorsIn g x c c) (one_set t t2 _ d d2) n))
  made_or_stopped c a from k _ e big (further {t = t} {a2 = a2} d ne n m q b r) (here d2 ne2 n2) =
      m (one_set a2 t _ n (subst (λ x. AreAncestorsIn g x c x) (one_set big t _ d2 d) n2))
  made_or_stopped c a from k _ e big (further {t = t} {a2 = a2} {ds = ds} d ne n m q b r) (later {t = t2} {a2 = a3} d2 ne2 n2 m2 q2 r2) =
      made_or_stopped c a2 (Source.Defined k) (suc k) ds e big r (subst (λ z. IsStopped g c z big)
      (one_set a3 a2 _ n2 (subst (λ x. AreAncestorsIn g x c a2) (one_set t t2 _ d d2) n)) r2)

  -- a factor stops at no more than one set
  pub stopped_one : (c a big big2 : ℕ) → IsStopped g c a big → IsStopped g c a big2 → big ≡ big2
  stopped_one c a big big2 (here d ne n) (here d2 ne2 n2) = one_set big big2 _ d d2
  stopped_one c a big big2 (here d ne n) (later {t = t} {a2 = a2} d2 ne2 n2 m q r) =
      absurd (m (one_set a2 t _ n2 (subst (λ x. AreAncestorsIn g x c x) (one_set big t _ d d2) n)))
  stopped_one c a big big2 (later {t = t} {a2 = a2} d ne n m q r) (here d2 ne2 n2) =
      absurd (m (one_set a2 t _ n (subst (λ x. AreAncestorsIn g x c x) (one_set big2 t _ d2 d) n2)))
  stopped_one c a big big2 (later {t = t} {a2 = a2} d ne n m q r) (later {t = t2} {a2 = a3} d2 ne2 n2 m2 q2 r2) =
      stopped_one c a2 big big2 r (subst (λ z. IsStopped g c z big2) (one_set a3 a2 _ n2 (subst (λ x. AreAncestorsIn g x c a2) (one_set t t2 _ d d2) n)) r2)

  -- an order gives one list of districts
  districts_one : (d seen : ℕ) (o2 ts us : List ℕ) → AreDistricts g d seen o2 ts → AreDistricts g d seen o2 us → ts ≡ us
  districts_one d seen _ _ _ AreDistricts.none AreDistricts.none = refl
  districts_one d seen _ _ _ (AreDistricts.skip {o = o2} {ts = ts} q r) (AreDistricts.skip {ts = us} q2 r2) = districts_one d seen o2 ts us r r2
  districts_one d seen _ _ _ (AreDistricts.skip {v = v} q r) (AreDistricts.take i n k r2) = absurd (pick q)
    where
      pick : (has d v ≡ false) ⊎ (has seen v ≡ true) → ⊥
      pick (inl e) = clash (has d v) i e
      pick (inr e) = clash (has seen v) e n
  districts_one d seen _ _ _ (AreDistricts.take {v = v} i n k r) (AreDistricts.skip q r2) = absurd (pick q)
    where
      pick : (has d v ≡ false) ⊎ (has seen v ≡ true) → ⊥
      pick (inl e) = clash (has d v) i e
      pick (inr e) = clash (has seen v) e n
  districts_one d seen _ _ _ (AreDistricts.take {v = v} {t = t} {o = o2} {ts = ts} i n k r) (AreDistricts.take {t = u} {ts = us} i2 n2 k2 r2) = let s : t
      ≡ u = one_set t u _ k k2 in
      ap₂ (λ x y. x ∷ y) s (districts_one d (union seen t) o2 ts us r (subst (λ z. AreDistricts g d (union seen z) o2 us) (sym s) r2))

  -- by one order what leads to y is split in one way
  pub split_one : (x y : ℕ) (s t : Split g o x y) → (s.d ≡ t.d) × (s.districts ≡ t.districts)
  split_one x y s t =
      let e = one_set s.d t.d _ s.is_d t.is_d in
      (e, districts_one s.d 0 o s.districts t.districts s.are_districts (subst (λ z. AreDistricts g z 0 o t.districts) (sym e) t.are_districts))

  pub record SameAll (ds : List Tree) (fs : Trees) (es : List Tree) (gs : Trees) : Type 0 where
    pub defs : ds ≡ es
    pub factors : fs ≡ gs

  factored_one : (k : ℕ) (cs : List ℕ) (ds es : List Tree) (fs gs : Trees) → AreFactored g o k cs ds fs → AreFactored g o k cs es gs → SameAll ds fs es gs
  factored_one _ _ _ _ _ _ AreFactored.none AreFactored.none = record { defs = refl; factors = refl }
  factored_one _ _ _ _ _ _ (AreFactored.next {k = k} {c = c} {a = a} {cs = cs} {ds = ds} {es = xs} {e = e} {fs = fs} n f r)
      (AreFactored.next {a = b} {ds = ds2} {es = ys} {e = e2} {fs = gs} n2 f2 r2) =
      let s = factor_one c a (Source.Under 0) k ds e ds2 e2 f (subst (λ z. IsFactor g o c z (Source.Under 0) k ds2 e2) (one_set b a _ n2 n) f2) in
      let rest = factored_one (k + length ds) cs xs ys fs gs r (subst (λ z. AreFactored g o (k + length z) cs ys gs) (sym s.defs) r2) in
      record { defs = ap₂ (λ x y. x ++ y) s.defs rest.defs; factors = ap₂ tree s.main rest.factors }

  factored_or_stopped : (k : ℕ) (cs : List ℕ) (ds : List Tree) (fs : Trees) (small big : ℕ) → AreFactored g o k cs ds fs → StopsAt g o k cs small big → ⊥
  factored_or_stopped _ _ _ _ small big AreFactored.none x = elim x [ ]
  factored_or_stopped _ _ _ _ _ big (AreFactored.next {k = k} {c = c} {a = a} {ds = ds} {e = e} n f r) (StopsAt.first {a = b} n2 s) =
      made_or_stopped c a (Source.Under 0) k ds e big f (subst (λ z. IsStopped g c z big) (one_set b a _ n2 n) s)
  factored_or_stopped _ _ _ _ small big (AreFactored.next {k = k} {c = c} {a = a} {cs = cs} {ds = ds} {es = xs} {e = e} {fs = fs} n f r)
      (StopsAt.after {a = b} {ds = ds2} {e = e2} n2 f2 s) =
      let same = factor_one c a (Source.Under 0) k ds e ds2 e2 f (subst (λ z. IsFactor g o c z (Source.Under 0) k ds2 e2) (one_set b a _ n2 n) f2) in
      factored_or_stopped (k + length ds) cs xs fs small big r (subst (λ z. StopsAt g o (k + length z) cs small big) (sym same.defs) s)

  -- two composed formulas have the same parts
  pub record SameParts (x y : ℕ) (f h : PlainFormula) (t : IsComposed g o x y f) (u : IsComposed g o x y h) : Type 0 where
    pub d_same : t.split.d ≡ u.split.d
    pub districts_same : t.split.districts ≡ u.split.districts
    pub defs_same : f.defs ≡ h.defs
    pub factors_same : t.factors ≡ u.factors

  pub parts_one : (x y : ℕ) (f h : PlainFormula) (t : IsComposed g o x y f) (u : IsComposed g o x y h) → SameParts x y f h t u
  parts_one x y f h t u = record { d_same = split.0; districts_same = split.1; defs_same = same.defs; factors_same = same.factors }
    where
      split : (t.split.d ≡ u.split.d) × (t.split.districts ≡ u.split.districts)
      split = split_one x y t.split u.split

      same : SameAll f.defs t.factors h.defs u.factors
      same = factored_one 0 t.split.districts f.defs h.defs t.factors u.factors t.are_factored
          (subst (λ z. AreFactored g o 0 z h.defs u.factors) (sym split.1) u.are_factored)

  pub tree_one : (x y : ℕ) (f h : PlainFormula) → IsComposed g o x y f → IsComposed g o x y h → f ≡ h
  tree_one x y f h t u = let s = parts_one x y f h t u in
      formula_same f h s.defs_same (t.main ∙ (ap₂ (λ a b. sum_if (minus a y) (product_of b)) s.d_same s.factors_same ∙ sym u.main))
    where
      formula_same : (f h : PlainFormula) → f.defs ≡ h.defs → f.main ≡ h.main → f ≡ h
      formula_same f h p q = ap₂ (λ a b. record { defs = a; main = b }) p q

  pub tree_or_stop : (x y small big : ℕ) (f : PlainFormula) → IsComposed g o x y f → IsUnidentifiedBy g o x y small big → ⊥
  tree_or_stop x y small big f t u = factored_or_stopped 0 t.split.districts f.defs t.factors small big t.are_factored
      (subst (λ z. StopsAt g o 0 z small big) (sym (split_one x y t.split u.split).1) u.stops)

  stops_one : (k : ℕ) (cs : List ℕ) (small big small2 big2 : ℕ) → StopsAt g o k cs small big → StopsAt g o k cs small2 big2 → (small ≡ small2) × (big ≡ big2)
  stops_one k _ _ big _ big2 (StopsAt.first {c = c} {a = a} n s) (StopsAt.first {a = b} n2 s2) =
      (refl, stopped_one c a big big2 s (subst (λ z. IsStopped g c z big2) (one_set b a _ n2 n) s2))
  stops_one k _ _ big small2 big2 (StopsAt.first {c = c} {a = a} n s) (StopsAt.after {a = b} {ds = ds} {e = e} n2 f2 r2) =
      absurd (made_or_stopped c b (Source.Under 0) k ds e big f2 (subst (λ z. IsStopped g c z big) (one_set a b _ n n2) s))
  stops_one k _ small big _ big2 (StopsAt.after {c = c} {a = a} {ds = ds} {e = e} n f r) (StopsAt.first {a = b} n2 s2) =
      absurd (made_or_stopped c a (Source.Under 0) k ds e big2 f (subst (λ z. IsStopped g c z big2) (one_set b a _ n2 n) s2))
  stops_one _ _ small big small2 big2 (StopsAt.after {k = k} {c = c} {a = a} {cs = cs} {ds = ds} {e = e} n f r)
      (StopsAt.after {a = b} {ds = ds2} {e = e2} n2 f2 r2) =
      let same = factor_one c a (Source.Under 0) k ds e ds2 e2 f (subst (λ z. IsFactor g o c z (Source.Under 0) k ds2 e2) (one_set b a _ n2 n) f2) in
      stops_one (k + length ds) cs small big small2 big2 r (subst (λ z. StopsAt g o (k + length z) cs small2 big2) (sym same.defs) r2)

  pub stop_one : (x y small big small2 big2 : ℕ) → IsUnidentifiedBy g o x y small big → IsUnidentifiedBy g o x y small2 big2 → (small ≡ small2) × (big ≡ big2)
  stop_one x y small big small2 big2 t u = stops_one 0 t.split.districts small big small2 big2 t.stops
      (subst (λ z. StopsAt g o 0 z small2 big2) (sym (split_one x y t.split u.split).1) u.stops)
