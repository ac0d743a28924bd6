-- The derivation of the formula over experiments is fixed.
use Rattle.std.proofs.Common.{ℕ, ◌+◌, ◌≡◌, refl, sym, ap, ap₂, subst, ◌∙◌, ◌⊎◌, inl, inr, List, [], ◌∷◌, ◌++◌, length}
use Rattle.mixed_graph.specs.Vocabulary.{MixedGraph, is_apart}
use Rattle.prob_expr.specs.Tree.{prob, Tree, tree}
use Rattle.prob_expr.specs.Vocabulary.{Trees, PlainFormula}
use Rattle.do_derivation.specs.Plans.{Plan, Plans}
use Rattle.do_derivation.specs.Vocabulary.{no_plans, PlainLemma, PlainDerivation}
use Rattle.identification_theory.specs.Vocabulary.{Source, IsFactor, Lists, more, AreFactorSteps, district_steps, main_steps}
use Rattle.identification_theory.proofs.Bools.{clash}
use Rattle.identification_theory.proofs.Orders.{one_order}
use Rattle.identification_theory.proofs.OneDerivation as derivations
use Rattle.identification_theory.proofs.Unique.{one_set, factor_one, split_one}
use Rattle.surrogates.specs.Vocabulary.{without, ComesFirst, IsFactorUnder, IsDerivedUnder, AreDerivedWith, IsComposedBySteps, IsSurrogateBySteps}
use Rattle.surrogates.proofs.Unique.{factor_or_stop}

-- two factors with their definitions, lemmas and steps are the same
record Made (ds es : List Tree) (e f : Tree) (ls ms : List PlainLemma) (l m : Plans) : Type 0 where
  defs : ds ≡ es
  main : e ≡ f
  lemmas : ls ≡ ms
  steps : l ≡ m

-- and so are those of several districts
record AllMade (ds es : List Tree) (fs hs : Trees) (ls ms : List PlainLemma) (xs ys : Lists) : Type 0 where
  defs : ds ≡ es
  factors : fs ≡ hs
  lemmas : ls ≡ ms
  lists : xs ≡ ys

module _ (g : MixedGraph) where
  -- under one intervention a factor is made in one way
  made_same : (z c k : ℕ) (ds es : List Tree) (e f : Tree) (ls ms : List PlainLemma) (l m : Plans) → IsDerivedUnder g z c k ds e ls l
      → IsDerivedUnder g z c k es f ms m → Made ds es e f ls ms l m
  made_same z c k ds es e f ls ms l m t u =
      let o : u.made.order ≡ t.made.order = one_order (without g z) u.made.order t.made.order u.made.is_order t.made.is_order in
      let a : u.made.a ≡ t.made.a = one_set u.made.a t.made.a _ u.made.ancestors t.made.ancestors in
      let s = factor_one (without g z) t.made.order c t.made.a (Source.Under z) k ds e es f t.made.factor
      (subst (λ b. IsFactor (without g z) t.made.order c b (Source.Under z) k es f) a
      (subst (λ p. IsFactor (without g z) p c u.made.a (Source.Under z) k es f) o u.made.factor)) in
      let p = derivations.factor_one (without g z) t.made.order c t.made.a (Source.Under z) k ls l ms m t.steps
      (subst (λ b. AreFactorSteps (without g z) t.made.order c b (Source.Under z) k ms m) a
      (subst (λ q. AreFactorSteps (without g z) q c u.made.a (Source.Under z) k ms m) o u.steps)) in
      record { defs = s.defs; main = s.main; lemmas = p.lemmas; steps = p.steps }

  -- one set of the list comes first
  one_source : (c k z w : ℕ) (ds es : List Tree) (e f : Tree) (l : List ℕ) → ComesFirst g c z l → IsFactorUnder g z c k ds e → ComesFirst g c w l
      → IsFactorUnder g w c k es f → w ≡ z
  one_source c k z _ ds es e f _ (ComesFirst.here a) t (ComesFirst.here b) u = refl
  one_source c k z w ds es e f _ (ComesFirst.here a) t (ComesFirst.meets b r) u = absurd (clash (is_apart z c) a b)
  one_source c k z w ds es e f _ (ComesFirst.here a) t (ComesFirst.stops {big = big} b s r) u = absurd (factor_or_stop g z c k ds e big t s)
  one_source c k z w ds es e f _ (ComesFirst.meets b r) t (ComesFirst.here a) u = absurd (clash (is_apart w c) a b)
  one_source c k z w ds es e f _ (ComesFirst.meets {zs = zs} a r) t (ComesFirst.meets b s) u = one_source c k z w ds es e f zs r t s u
  one_source c k z w ds es e f _ (ComesFirst.meets {w = v} a r) t (ComesFirst.stops b s q) u = absurd (clash (is_apart v c) b a)
  one_source c k z w ds es e f _ (ComesFirst.stops {big = big} b s r) t (ComesFirst.here a) u = absurd (factor_or_stop g w c k es f big u s)
  one_source c k z w ds es e f _ (ComesFirst.stops {w = v} a s r) t (ComesFirst.meets b q) u = absurd (clash (is_apart v c) a b)
  one_source c k z w ds es e f _ (ComesFirst.stops {zs = zs} a s r) t (ComesFirst.stops b p q) u = one_source c k z w ds es e f zs r t q u

  all_made : (zs : List ℕ) (k : ℕ) (cs : List ℕ) (ds es : List Tree) (fs hs : Trees) (ls ms : List PlainLemma) (xs ys : Lists)
      → AreDerivedWith g zs k cs ds fs ls xs
      → AreDerivedWith g zs k cs es hs ms ys → AllMade ds es fs hs ls ms xs ys
  all_made zs k _ _ _ _ _ _ _ _ _ AreDerivedWith.none AreDerivedWith.none = record { defs = refl; factors = refl; lemmas = refl; lists = refl }
  all_made zs k _ _ _ _ _ _ _ _ _ (AreDerivedWith.next {c = c} {z = z} {cs = cs} {ds = ds} {es = ds2} {e = e} {fs = fs} {ls = ls} {more_ls = ls2} {l = l}
      {lists = xs} h t r)
      (AreDerivedWith.next {z = w} {ds = es} {es = es2} {e = f} {fs = hs} {ls = ms} {more_ls = ms2} {l = m} {lists = ys} i u s) =
      let first : w ≡ z = one_source c k z w ds es e f (0 ∷ zs) h t.made i u.made in
      let one : Made ds es e f ls ms l m = made_same z c k ds es e f ls ms l m t (subst (λ v. IsDerivedUnder g v c k es f ms m) first u) in
      let rest : AllMade ds2 es2 fs hs ls2 ms2 xs ys =
      all_made zs (k + length ds) cs ds2 es2 fs hs ls2 ms2 xs ys r (subst (λ d. AreDerivedWith g zs (k + length d) cs es2 hs ms2 ys) (sym one.defs) s) in
      record {
        defs = ap₂ (λ p q. p ++ q) one.defs rest.defs;
        factors = ap₂ tree one.main rest.factors;
        lemmas = ap₂ (λ p q. p ++ q) one.lemmas rest.lemmas;
        lists = ap₂ more one.steps rest.lists;
      }

  composed_once : (o zs : List ℕ) (x y : ℕ) (f h : PlainFormula) (d e : PlainDerivation) → IsComposedBySteps g o zs x y f d → IsComposedBySteps g o zs x y h e
      → d ≡ e
  composed_once o zs x y f h d e t u = derivation_same d e same.lemmas (t.steps ∙ (ap Plan.Then mains ∙ sym u.steps))
    where
      split : (t.split.d ≡ u.split.d) × (t.split.districts ≡ u.split.districts)
      split = split_one g o x y t.split u.split

      same : AllMade f.defs h.defs t.factors u.factors d.lemmas e.lemmas t.lists u.lists
      same = all_made zs 0 t.split.districts f.defs h.defs t.factors u.factors d.lemmas e.lemmas t.lists u.lists t.are_derived
          (subst (λ cs. AreDerivedWith g zs 0 cs h.defs u.factors e.lemmas u.lists) (sym split.1) u.are_derived)

      mains : main_steps g.vertices x y t.split.d (district_steps o t.split.d t.split.districts t.lists t.factors)
          ≡ main_steps g.vertices x y u.split.d (district_steps o u.split.d u.split.districts u.lists u.factors)
      mains = ap₂ (λ a (w : Plans). main_steps g.vertices x y a w) split.0
          (ap₂ (λ a (q : List ℕ). district_steps o a q t.lists t.factors) split.0 split.1
          ∙ ap₂ (λ (v : Lists) w. district_steps o u.split.d u.split.districts v w) same.lists same.factors)

      derivation_same : (d e : PlainDerivation) → d.lemmas ≡ e.lemmas → d.main ≡ e.main → d ≡ e
      derivation_same d e p q = ap₂ (λ a b. record { lemmas = a; main = b }) p q

-- by this order the procedure over experiments answers the formula with the derivation
abbrev IsBySteps : MixedGraph → (order zs : List ℕ) → (x y : ℕ) → PlainFormula → PlainDerivation → Type 0
IsBySteps g order zs x y f d = ((x ≡ 0) × (f ≡ record { defs = []; main = prob y 0 0 }) × (d ≡ record { lemmas = []; main = Plan.Then no_plans }))
    ⊎ ((x ≡ 0 → ⊥) × IsComposedBySteps g order zs x y f d)

-- P(y | do(x)) has at most one derivation over the same experiments
pub one_derivation_over : (g : MixedGraph) (zs : List ℕ) (x y : ℕ) (f h : PlainFormula) (d e : PlainDerivation) → IsSurrogateBySteps g zs x y f d
    → IsSurrogateBySteps g zs x y h e → d ≡ e
one_derivation_over g zs x y f h d e s t = go s.answer (subst (λ o. IsBySteps g o zs x y h e) (one_order g t.order s.order t.is_order s.is_order) t.answer)
  where
    go : IsBySteps g s.order zs x y f d → IsBySteps g s.order zs x y h e → d ≡ e
    go (inl a) (inl b) = a.2 ∙ sym b.2
    go (inl a) (inr b) = absurd (b.0 a.0)
    go (inr a) (inl b) = absurd (a.0 b.0)
    go (inr a) (inr b) = composed_once g s.order zs x y f h d e a.1 b.1
