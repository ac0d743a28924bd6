-- From what was found to the answer.
use Rattle.std.proofs.Common.{ℕ, ◌*◌, ◌≡◌, ◌≢◌, ◌<◌, ◌^◌, ◌↔◌, Bool, true, false, sym, ap, ◌∙◌, ◌&&◌, subst, List, [], ◌∷◌, arith, suc, inl, inr}
use Rattle.std.specs.Prelude.{All}
use mathlib.Core.Path.{fun_ext}
use Rattle.mixed_graph.specs.Vocabulary.{has, MixedGraph, IsMixedGraph, union, minus, all}
use Rattle.mixed_graph.proofs.Masks.{has-zero, positive_from_has, some_member}
use Rattle.mixed_graph.proofs.MaskLaws.{has_join}
use Rattle.finite_models.specs.Vocabulary.{meaning, weight_of, total}
use Rattle.finite_models.proofs.Bools.{not_both}
use Rattle.hedge.specs.declared.hedge.Hedge.{Hedge}
use Rattle.hedge.specs.Vocabulary.{IsSetOf, IsInOne, IsMaximalJoined, IsPartition, AreDistrictsOf}
use Rattle.hedge.proofs.Collecting.{parts_from}
use Rattle.counter_models.specs.declared.counter_pair.CounterPair.{CounterPair}
use Rattle.counter_models.specs.Vocabulary.{AreCounterModels}
use Rattle.identification_theory.specs.Vocabulary.{AreAncestorsIn}
use Rattle.identification_theory.proofs.Unique.{one_set}
use Rattle.identify.specs.Vocabulary.{IsRightHedge}
use Rattle.nested_models.specs.Vocabulary.{LeadsPast, LeadsThrough, HasNoFormulaNested}
use Rattle.nested_models.proofs.NoFormula.{difference_excludes_nested, effect_excludes_nested}
use Rattle.twisted_models.specs.Vocabulary.{DifferOnNested}
use Rattle.carrying_models.proofs.Differing.{witness_differs, split_differs}
use Rattle.natural_id.specs.declared.answers.Split.{Split}
use Rattle.natural_id.specs.declared.answers.Witness.{Witness}
use Rattle.natural_id.specs.Parts.{PlainPart, IsNaturalTarget, EqualsNatural, AreRightParts, districts_of}
use Rattle.natural_id.specs.Answers.{IsWitness, IsSplit, IsSplitIn, ReadsBoth, IsLostNested}
use Rattle.natural_id.proofs.Districts.{natural_formula_is_right, d_low}
use Rattle.natural_id.proofs.Leading.{child_past}

-- nothing is in an empty meeting
pub none_meets : (a b c d e : ℕ) → ((v : ℕ) → has d v ≡ (has a v && has b v)) → ((v : ℕ) → has e v ≡ (has d v && has c v)) → e ≡ 0
    → (v : ℕ) → has a v ≡ true → has b v ≡ true → has c v ≡ true → ⊥
none_meets a b c d e is is2 zero v h i j = absurd (bools (has a v) (has b v) (has c v) (has d v) (has e v) (is v) (is2 v) h i j
    (ap (λ n. has n v) zero ∙ has-zero v))
  where
    bools : (a b c d e : Bool) → d ≡ (a && b) → e ≡ (d && c) → a ≡ true → b ≡ true → c ≡ true → e ≡ false → ⊥
    bools a b c d e h i j k l n = absurd (grind (arith, h, i, j, k, l, n))

-- where y has a member, so has what holds it
pub some_joint : (y joint : ℕ) → 0 < y → y < 2 ^ 64 → ((v : ℕ) → has y v ≡ true → has joint v ≡ true) → 0 < joint
some_joint y joint some low in_joint =
    let v = some_member y (λ e. absurd (omega (arith, some, e))) low in positive_from_has joint v.0 (in_joint v.0 v.1)

module _ (g : MixedGraph) (ok : IsMixedGraph g) (x m y z : ℕ) (target : IsNaturalTarget g x m y z) where
  -- a hedge excludes each formula
  pub hedge_right : (joint : ℕ) → joint ≡ union y z → (h : Hedge) (pair : CounterPair) → IsRightHedge g x joint h pair
      → IsRightHedge g x (union y z) h pair × HasNoFormulaNested g x m y z
  hedge_right joint same h pair right = let k = subst (λ j. IsRightHedge g x j h pair) same right in (k, excluded k.counter)
    where
      excluded : AreCounterModels g x (union y z) pair → HasNoFormulaNested g x m y z
      excluded models =
          effect_excludes_nested g ok (meaning g pair.first) (meaning g pair.second) models.first.fits models.second.fits models.first.positive
          models.second.positive models.observed x m y z target.asked target.x_low models.effects.at models.effects.within
          (subst (λ (a : ℕ → Bool). weight_of (meaning g pair.first) (has x) a models.effects.at * total (meaning g pair.second)
          ≢ weight_of (meaning g pair.second) (has x) a models.effects.at * total (meaning g pair.first)) (fun_ext (λ v. has_join y z v))
          models.effects.unequal)

  -- two models that differ exclude each formula
  lost : DifferOnNested g x m y z → IsLostNested g x m y z
  lost p = record {
    models = p;
    no_formula = difference_excludes_nested g ok p.first p.second p.first_fits p.second_fits p.first_positive p.second_positive p.agree x m y z
        target.x_low p.s p.t p.s_values p.t_values p.differ;
  }

  pub witness_right : (w : Witness) → IsWitness g x m y w → IsWitness g x m y w × IsLostNested g x m y z
  witness_right w is = (
    is,
    lost (witness_differs g ok x m y z w.child target.asked (record {
      parent = w.treatment;
      from_x = is.from_x;
      arrow = is.arrow;
      through = is.through;
      past = is.past;
    })),
  )

  module _ (d joint : ℕ) (same : joint ≡ union y z) (are : AreAncestorsIn g (minus (all g.vertices) x) joint d) (past through : ℕ)
      (is_past : IsSetOf past (LeadsPast g (has x) (has m) (has y))) (is_through : IsSetOf through (LeadsThrough g (has x) (has m) (has y))) where
    ancestors : AreAncestorsIn g (minus (all g.vertices) x) (union y z) d
    ancestors = subst (λ j. AreAncestorsIn g (minus (all g.vertices) x) j d) same are

    pub formula_right : (summed : ℕ) → summed ≡ minus d joint
        → ((p c : ℕ) → has x p ≡ true → g.arrow p c ≡ true → has through c ≡ true → has past c ≡ true → ⊥)
        → (ts : List ℕ) → AreDistrictsOf g d ts → (ps : List PlainPart) → districts_of ps ≡ ts → AreRightParts g x through ps
        → EqualsNatural g x m y z summed ps
    formula_right summed is none ts districts ps listed parts =
        subst (λ u. EqualsNatural g x m y z u ps) (sym (is ∙ ap (minus d) same))
        (natural_formula_is_right g ok x m y z d target
        (λ c k. none k.parent c k.from_x k.arrow (is_through.complete c k.through) (is_past.complete c k.past)) ps (record {
          ancestors = ancestors;
          through = through;
          is_through = is_through;
          districts = subst (AreDistrictsOf g d) (sym listed) districts;
          right = parts;
        }))

    -- children of one treatment in one district are alike
    alike : (ps : List PlainPart) → AreRightParts g x through ps → All (IsMaximalJoined g d) (districts_of ps) → (t : ℕ) → IsMaximalJoined g d t
        → (p v w : ℕ) → has x p ≡ true → g.arrow p v ≡ true → g.arrow p w ≡ true → has t v ≡ true → has t w ≡ true → IsInOne (districts_of ps) v
        → has through v ≡ has through w
    alike [] h all t is p v w e cv cw tv tw one = absurd one
    alike (q ∷ ps) h all t is p v w e cv cw tv tw (inl i) =
        h.0.reads p v cv e i ∙ sym (h.0.reads p w cw e ((all 0 0 (omega arith)).most t v is.inside is.joined tv i w tw))
    alike (q ∷ ps) h all t is p v w e cv cw tv tw (inr one) =
        alike ps h.1 (λ i k l. all (suc i) k (omega (arith, l))) t is p v w e cv cw tv tw one

    -- where no child of x leads to y both through m and past it, and each district reads one value of each treatment, nothing reads both
    pub formula_clear : ((p c : ℕ) → has x p ≡ true → g.arrow p c ≡ true → has through c ≡ true → has past c ≡ true → ⊥)
        → (ts : List ℕ) → AreDistrictsOf g d ts → All (IsMaximalJoined g d) ts → (ps : List PlainPart) → districts_of ps ≡ ts → AreRightParts g x through ps
        → ReadsBoth g x m y z → ⊥
    formula_clear none ts districts maximal ps listed parts (inl k) =
        let w = k.1 in none k.0.treatment k.0.child w.from_x w.arrow (is_through.complete k.0.child w.through) (is_past.complete k.0.child w.past)
    formula_clear none ts districts maximal ps listed parts (inr k) =
        let s = k.0 in let is = k.1 in
        let same_d : is.d ≡ d = one_set is.d d _ is.ancestors ancestors in
        let whole : IsMaximalJoined g d s.district.bits = subst (λ e. IsMaximalJoined g e s.district.bits) same_d is.district in
        let partition : IsPartition d ts = parts_from g ok d ts (λ v e. d_low g ok x m y z d target ancestors v e) districts in
        let same : has through s.first ≡ has through s.second =
        alike ps parts (subst (All (IsMaximalJoined g d)) (sym listed) maximal) s.district.bits whole s.treatment s.first s.second is.from_x
        is.first_child is.second_child is.first_in is.second_in
        (subst (λ l. IsInOne l s.first) (sym listed) (partition.cover s.first (whole.inside s.first is.first_in))) in
        none s.treatment s.first is.from_x is.first_child (same ∙ is_through.complete s.second is.through) (is_past.complete s.first is.past)

    split_of : (s : Split) → IsMaximalJoined g d s.district.bits → IsSplitIn g x through s → IsSplit g x m y z s
    split_of s maximal is = record {
      from_x = is.from_x;
      d = d;
      ancestors = ancestors;
      district = maximal;
      first_in = is.first_in;
      first_child = is.first_child;
      past = child_past g ok x m y z d target.asked ancestors s.treatment s.first is.from_x is.first_child (maximal.inside s.first is.first_in)
          (λ l. not_both (has through s.first) (is_through.complete s.first l) is.first_out);
      second_in = is.second_in;
      second_child = is.second_child;
      through = is_through.sound s.second is.second_through;
    }

    pub split_right : (s : Split) → IsMaximalJoined g d s.district.bits → IsSplitIn g x through s → IsSplit g x m y z s × IsLostNested g x m y z
    split_right s maximal is = let h = split_of s maximal is in
        (h, lost (split_differs g ok x m y z s.treatment s.district.bits s.first s.second target.asked h))
