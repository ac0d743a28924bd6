-- The derivation of the procedure's formula is fixed, and so the one that is accepted.
use Rattle.std.proofs.Common.{ℕ, suc, ◌+◌, ◌≡◌, refl, sym, ap, ap₂, subst, ◌∙◌, List, ◌∷◌, ◌++◌, length}
use Rattle.do_derivation.specs.Plans.{Plan, Plans}
use Rattle.do_derivation.specs.Vocabulary.{PlainLemma, PlainDerivation}
use Rattle.identification_theory.proofs.Bools.{clash}
use Rattle.identification_theory.specs.Derivations.{Lists, more, ArePlaceLists, body_steps, AreBodySteps, cut_steps, in_order, universe, source_steps}
use Rattle.identification_theory.specs.Derivations.{place_list, AreFactorSteps, AreAllSteps, district_steps, main_steps, IsComposedAndDerived}
use Rattle.identification_theory.specs.Derivations.AreFactorSteps.{whole, summed, further}
use Rattle.identification_theory.specs.Procedure.{AreAncestorsIn, Source}
use Rattle.identification_theory.proofs.Unique.{one_set, parts_one}
use Rattle.mixed_graph.specs.Vocabulary.{has, MixedGraph, union, minus, one}
use Rattle.prob_expr.specs.Vocabulary.{PlainFormula}

module _ (g : MixedGraph) (o : List ℕ) where
  places_one : (from : Source) (a t p : ℕ) (o2 : List ℕ) (ls ms : Lists) → ArePlaceLists g from a t p o2 ls → ArePlaceLists g from a t p o2 ms → ls ≡ ms
  places_one from a t _ _ _ _ ArePlaceLists.none ArePlaceLists.none = refl
  places_one from a t _ _ _ _ (ArePlaceLists.skip {p = p} {v = v} {o = o2} {ls = ls} q r) (ArePlaceLists.skip {ls = ms} q2 r2) =
      places_one from a t (union p (one v)) o2 ls ms r r2
  places_one from a t _ _ _ _ (ArePlaceLists.skip {v = v} q r) (ArePlaceLists.take q2 pl r2) = absurd (clash (has t v) q2 q)
  places_one from a t _ _ _ _ (ArePlaceLists.take {v = v} q pl r) (ArePlaceLists.skip q2 r2) = absurd (clash (has t v) q q2)
  places_one from a t _ _ _ _ (ArePlaceLists.take {p = p} {v = v} {m = m} {o = o2} {ls = ls} q pl r) (ArePlaceLists.take {m = m2} {ls = ms} q2 pl2 r2) =
      ap₂ more (ap (λ z. place_list p (universe g.vertices from a) a t z (source_steps from a v z)) (one_set m m2 _ pl pl2))
      (places_one from a t (union p (one v)) o2 ls ms r r2)

  body_one : (from : Source) (a t : ℕ) (l m : Plans) → AreBodySteps g o from a t l → AreBodySteps g o from a t m → l ≡ m
  body_one from a t l m b c = b.is ∙ (ap (body_steps (in_order t o)) (places_one from a t 0 o b.lists c.lists b.are c.are) ∙ sym c.is)

  pub record Same (ls : List PlainLemma) (l : Plans) (ms : List PlainLemma) (m : Plans) : Type 0 where
    pub lemmas : ls ≡ ms
    pub steps : l ≡ m

  -- a factor has at most one list of lemmas and one list of steps
  pub factor_one : (c a : ℕ) (from : Source) (k : ℕ) (ls : List PlainLemma) (l : Plans) (ms : List PlainLemma) (m : Plans)
      → AreFactorSteps g o c a from k ls l → AreFactorSteps g o c a from k ms m → Same ls l ms m
  factor_one c a from k _ l _ m (whole d b) (whole d2 b2) = record { lemmas = refl; steps = body_one from a c l m b b2 }
  factor_one c a from k _ l _ _ (whole d b) (summed {t = t} d2 ne n b2) = absurd (ne (one_set t c _ d2 d))
  factor_one c a from k _ l _ m (whole d b) (further {t = t} d2 ne n p q b2 r) = absurd (ne (one_set t c _ d2 d))
  factor_one c a from k _ _ _ m (summed {t = t} d ne n b) (whole d2 b2) = absurd (ne (one_set t c _ d d2))
  factor_one c a from k _ _ _ _ (summed {t = t} {l = l} d ne n b) (summed {t = t2} {l = m} d2 ne2 n2 b2) = let s : t ≡ t2 = one_set t t2 _ d d2 in
      record { lemmas = refl; steps = ap₂ (λ x y. cut_steps (minus x c) y) s (body_one from a t l m b (subst (λ x. AreBodySteps g o from a x m) (sym s) b2)) }
  factor_one c a from k _ _ _ m (summed {t = t} d ne n b) (further {t = t2} {a2 = a2} d2 ne2 n2 p q b2 r) =
      absurd (q (one_set a2 c _ n2 (subst (λ x. AreAncestorsIn g x c c) (one_set t t2 _ d d2) n)))
  factor_one c a from k _ l _ m (further {t = t} d ne n p q b r) (whole d2 b2) = absurd (ne (one_set t c _ d d2))
  factor_one c a from k _ l _ _ (further {t = t} {a2 = a2} d ne n p q b r) (summed {t = t2} d2 ne2 n2 b2) =
      absurd (q (one_set a2 c _ n (subst (λ x. AreAncestorsIn g x c c) (one_set t2 t _ d2 d) n2)))
  factor_one c a from k _ l _ m (further {t = t} {a2 = a2} {b = x} {ls = ls} d ne n p q b r)
      (further {t = t2} {a2 = a3} {b = y} {ls = ms} d2 ne2 n2 p2 q2 b2 r2) =
      let s : t ≡ t2 = one_set t t2 _ d d2 in let s2 : a2 ≡ a3 = one_set a2 a3 _ n (subst (λ z. AreAncestorsIn g z c a3) (sym s) n2) in
      let rest = factor_one c a2 (Source.Defined k) (suc k) ls l ms m r (subst (λ z. AreFactorSteps g o c z (Source.Defined k) (suc k) ms m) (sym s2) r2) in
      record {
        lemmas = ap₂ (λ (u : PlainLemma) w. u ∷ w) (lemma_same s s2 (body_one from a t x y b (subst (λ z. AreBodySteps g o from a z y) (sym s) b2)))
            rest.lemmas;
        steps = rest.steps;
      }
    where
      lemma_same : {t t2 a2 a3 : ℕ} {x y : Plans} → t ≡ t2 → a2 ≡ a3 → x ≡ y
          → ◌≡◌ {A = PlainLemma} (record { set = a2; plan = Plan.Then (cut_steps (minus t a2) x) })
          (record { set = a3; plan = Plan.Then (cut_steps (minus t2 a3) y) })
      lemma_same {t = t} {a2 = a2} {x = x} e f h = rw (sym e, sym f, sym h) refl

  record SameAll (ls : List PlainLemma) (xs : Lists) (ms : List PlainLemma) (ys : Lists) : Type 0 where
    lemmas : ls ≡ ms
    lists : xs ≡ ys

  all_one : (k : ℕ) (cs : List ℕ) (ls ms : List PlainLemma) (xs ys : Lists) → AreAllSteps g o k cs ls xs → AreAllSteps g o k cs ms ys → SameAll ls xs ms ys
  all_one _ _ _ _ _ _ AreAllSteps.none AreAllSteps.none = record { lemmas = refl; lists = refl }
  all_one _ _ _ _ _ _ (AreAllSteps.next {k = k} {c = c} {a = a} {cs = cs} {ls = ls} {more_ls = xs} {l = l} {lists = fs} n f r)
      (AreAllSteps.next {a = b} {ls = ls2} {more_ls = ys} {l = l2} {lists = gs} n2 f2 r2) =
      let s = factor_one c a (Source.Under 0) k ls l ls2 l2 f (subst (λ z. AreFactorSteps g o c z (Source.Under 0) k ls2 l2) (one_set b a _ n2 n) f2) in
      let rest = all_one (k + length ls) cs xs ys fs gs r (subst (λ z. AreAllSteps g o (k + length z) cs ys gs) (sym s.lemmas) r2) in
      record { lemmas = ap₂ (λ x y. x ++ y) s.lemmas rest.lemmas; lists = ap₂ more s.steps rest.lists }

  pub derivation_one : (x y : ℕ) (f h : PlainFormula) (d e : PlainDerivation) → IsComposedAndDerived g o x y f d → IsComposedAndDerived g o x y h e → d ≡ e
  derivation_one x y f h d e s t = derivation_same d e same.lemmas (s.main ∙ (ap Plan.Then mains ∙ sym t.main))
    where
      p : Rattle.identification_theory.proofs.Unique.SameParts g o x y f h s.composed t.composed
      p = parts_one g o x y f h s.composed t.composed

      same : SameAll d.lemmas s.lists e.lemmas t.lists
      same = all_one 0 s.composed.split.districts d.lemmas e.lemmas s.lists t.lists s.are
          (subst (λ z. AreAllSteps g o 0 z e.lemmas t.lists) (sym p.districts_same) t.are)

      mains : main_steps g.vertices x y s.composed.split.d (district_steps o s.composed.split.d s.composed.split.districts s.lists s.composed.factors)
          ≡ main_steps g.vertices x y t.composed.split.d (district_steps o t.composed.split.d t.composed.split.districts t.lists t.composed.factors)
      mains = ap₂ (λ a (w : Plans). main_steps g.vertices x y a w) p.d_same
          (ap₂ (λ a (q : List ℕ). district_steps o a q s.lists s.composed.factors) p.d_same p.districts_same
          ∙ ap₂ (λ (u : Lists) w. district_steps o t.composed.split.d t.composed.split.districts u w) same.lists p.factors_same)

      derivation_same : (d e : PlainDerivation) → d.lemmas ≡ e.lemmas → d.main ≡ e.main → d ≡ e
      derivation_same d e p q = ap₂ (λ a b. record { lemmas = a; main = b }) p q
