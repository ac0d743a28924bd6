-- Accepted parts make up the effect.
use Rattle.std.proofs.Common.{ℕ, suc, ◌≡◌, ◌<◌, Bool, true, refl, sym, ap, ap₂, ◌∙◌, ◌&&◌, List, [], ◌∷◌, subst, arith, inl, inr}
use Rattle.std.specs.Prelude.{All}
use Rattle.mixed_graph.specs.Vocabulary.{has, MixedGraph, IsMixedGraph, minus, all, union, common}
use Rattle.mixed_graph.proofs.Masks.{same_from_has}
use Rattle.mixed_graph.proofs.MaskLaws.{has_meet}
use Rattle.finite_models.proofs.Bools.{and_first, and_second, same_truth}
use Rattle.hedge.specs.Vocabulary.{AreDistrictsOf, IsInOne, IsMaximalJoined, IsSetOf}
use Rattle.hedge.proofs.Collecting.{parts_from, maximal_from}
use Rattle.prob_expr.specs.Vocabulary.{effect_on, EqualsEffect}
use Rattle.do_derivation.specs.Vocabulary.{are_sets}
use Rattle.do_derivation.proofs.Accepted.{accepted_is_effect}
use Rattle.identification_theory.proofs.Unique.{one_set}
use Rattle.nested_models.specs.Vocabulary.{IsRecantingWitness, LeadsPast, LeadsThrough}
use Rattle.derived_parts.specs.Accepted.{is_set}
use Rattle.derived_parts.specs.Vocabulary.{AreAccepted, IsAcceptedPart, PlainDerivedPart, district_target}
use Rattle.derived_parts.proofs.Turns.{target_is_term}
use Rattle.treated_id.specs.Vocabulary.{IsTreatedTarget}
use Rattle.treated_id.proofs.Ancestors.{ancestors_low}
use Rattle.treated_parts.specs.Parts.{AreEachTreated, EqualsAmongParts}
use Rattle.treated_parts.proofs.Values.{treated_parts_are_right}
use Rattle.natural_id.specs.Vocabulary.{AreRightParts, EqualsNatural, IsNaturalTarget, PlainPart, ReadsBoth, districts_of}
use Rattle.natural_id.proofs.Districts.{natural_formula_is_right, d_low}
use Rattle.part_checks.specs.Natural.{AreEachAlike, AreNaturalDistricts, AcceptsNatural, HasNaturalDistricts}
use Rattle.part_checks.specs.Reading.{AreReadAs, ReadsOwn, ReadsThrough}
use Rattle.part_checks.specs.Treated.{AcceptsTreated, HasTreatedDistricts}
use Rattle.part_checks.proofs.Lists.{sets_of_maximal}

module _ (g : MixedGraph) (ok : IsMixedGraph g) where
  -- the formula of an accepted part is right
  formula_right : (c : ℕ) (p : PlainDerivedPart) (q : PlainPart) → is_set g.vertices c ≡ true → IsAcceptedPart g c p → q.district ≡ p.district
      → q.formula ≡ p.formula → EqualsEffect g (effect_on (minus (all g.vertices) q.district) q.district) q.formula
  formula_right c p q set is same f =
      subst (λ e. EqualsEffect g (effect_on (minus (all g.vertices) e) e) q.formula) (sym (same ∙ is.district))
      (subst (EqualsEffect g (district_target g c)) (sym f)
      (accepted_is_effect g ok [] (district_target g c) p.formula p.derivation (target_is_term g.vertices c set) is.accepted).1)

  natural_right : (x through : ℕ) (ts : List ℕ) (ps : List PlainDerivedPart) (qs : List PlainPart) → are_sets g.vertices ts ≡ true → AreAccepted g ts ps
      → AreEachAlike g x through ts → AreReadAs (ReadsThrough g x through) ps qs → (districts_of qs ≡ ts) × AreRightParts g x through qs
  natural_right x through [] [] [] sets a alike r = (refl, tt)
  natural_right x through [] [] (q ∷ qs) sets a alike r = absurd r
  natural_right x through [] (p ∷ ps) qs sets a alike r = absurd a
  natural_right x through (c ∷ cs) [] qs sets a alike r = absurd a
  natural_right x through (c ∷ cs) (p ∷ ps) [] sets a alike r = absurd r
  natural_right x through (c ∷ cs) (p ∷ ps) (q ∷ qs) sets a alike r =
      let rest = natural_right x through cs ps qs (and_second (is_set g.vertices c) (are_sets g.vertices cs) sets) a.1 alike.1 r.1 in (
        ap₂ (λ d l. d ∷ l) (r.0.district ∙ a.0.district) rest.0,
        (
          record {
            formula = formula_right c p q (and_first (is_set g.vertices c) (are_sets g.vertices cs) sets) a.0 r.0.district r.0.formula;
            reads = reads;
          },
          rest.1,
        ),
      )
    where
      in_c : (v : ℕ) → has p.district v ≡ true → has c v ≡ true
      in_c v i = ap (λ e. has e v) (sym a.0.district) ∙ i

      reads : (u v : ℕ) → g.arrow u v ≡ true → has x u ≡ true → has q.district v ≡ true → has through v ≡ has q.second u
      reads u v e i j =
          let own : has p.district v ≡ true = ap (λ d. has d v) (sym r.0.district) ∙ j in
          same_truth (has through v) (has q.second u) (λ h. r.0.second.complete u (i, (v, own, h, e)))
          (λ h. let k = r.0.second.sound u h in alike.0 u v k.1.0 i e k.1.3 (in_c v own) (in_c k.1.0 k.1.1) ∙ k.1.2)

  treated_right : (x : ℕ) (ts : List ℕ) (ps : List PlainDerivedPart) (qs : List PlainPart) → are_sets g.vertices ts ≡ true → AreAccepted g ts ps
      → AreReadAs (ReadsOwn x) ps qs → (districts_of qs ≡ ts) × AreEachTreated g x qs
  treated_right x [] [] [] sets a r = (refl, tt)
  treated_right x [] [] (q ∷ qs) sets a r = absurd r
  treated_right x [] (p ∷ ps) qs sets a r = absurd a
  treated_right x (c ∷ cs) [] qs sets a r = absurd a
  treated_right x (c ∷ cs) (p ∷ ps) [] sets a r = absurd r
  treated_right x (c ∷ cs) (p ∷ ps) (q ∷ qs) sets a r =
      let rest = treated_right x cs ps qs (and_second (is_set g.vertices c) (are_sets g.vertices cs) sets) a.1 r.1 in (
        ap₂ (λ d l. d ∷ l) (r.0.district ∙ a.0.district) rest.0,
        (
          record {
            formula = formula_right c p q (and_first (is_set g.vertices c) (are_sets g.vertices cs) sets) a.0 r.0.district r.0.formula;
            reads = same_from_has q.second (common x q.district) (λ v. same_truth (has q.second v) (has (common x q.district) v) (to v) (from v));
          },
          rest.1,
        ),
      )
    where
      pair : (a b : Bool) → a ≡ true → b ≡ true → (a && b) ≡ true
      pair a b h k = grind (arith, h, k)

      to : (v : ℕ) → has q.second v ≡ true → has (common x q.district) v ≡ true
      to v h = let k = r.0.second.sound v h in has_meet x q.district v ∙ pair (has x v) (has q.district v) k.0 (ap (λ d. has d v) r.0.district ∙ k.1)

      from : (v : ℕ) → has (common x q.district) v ≡ true → has q.second v ≡ true
      from v h = let k = sym (has_meet x q.district v) ∙ h in
          r.0.second.complete v (
            and_first (has x v) (has q.district v) k,
            ap (λ d. has d v) (sym r.0.district) ∙ and_second (has x v) (has q.district v) k,
          )

  -- ---- nested effects
  -- children of one treatment in one district are alike
  alike_in : (x through d : ℕ) (ts : List ℕ) → All (IsMaximalJoined g d) ts → AreEachAlike g x through ts → (t : ℕ) → IsMaximalJoined g d t → (p v w : ℕ)
      → has x p ≡ true → g.arrow p v ≡ true → g.arrow p w ≡ true → has t v ≡ true → has t w ≡ true → IsInOne ts v → has through v ≡ has through w
  alike_in x through d [] all h t is p v w e cv cw tv tw one = absurd one
  alike_in x through d (c ∷ cs) all h t is p v w e cv cw tv tw (inl i) =
      h.0 p v w e cv cw i ((all 0 0 (omega arith)).most t v is.inside is.joined tv i w tw)
  alike_in x through d (c ∷ cs) all h t is p v w e cv cw tv tw (inr one) =
      alike_in x through d cs (λ i k l. all (suc i) k (omega (arith, l))) h.1 t is p v w e cv cw tv tw one

  module _ (x m y z d : ℕ) (target : IsNaturalTarget g x m y z) (ts : List ℕ) (are : AreNaturalDistricts g x y z d ts) where
    low : (v : ℕ) → has d v ≡ true → v < g.vertices
    low = d_low g ok x m y z d target are.ancestors

    pub natural_sets : are_sets g.vertices ts ≡ true
    natural_sets = sets_of_maximal g d low ts (maximal_from g ok d ts are.districts)

    -- where no child of x is on both ways, and children of one treatment are alike in each district, nothing reads both values
    pub clear_by_alike : (past through : ℕ) → IsSetOf past (LeadsPast g (has x) (has m) (has y)) → IsSetOf through (LeadsThrough g (has x) (has m) (has y))
        → ((p c : ℕ) → has x p ≡ true → g.arrow p c ≡ true → has through c ≡ true → has past c ≡ true → ⊥) → AreEachAlike g x through ts
        → ReadsBoth g x m y z → ⊥
    clear_by_alike past through is_past is_through none alike (inl k) =
        let w = k.1 in none k.0.treatment k.0.child w.from_x w.arrow (is_through.complete k.0.child w.through) (is_past.complete k.0.child w.past)
    clear_by_alike past through is_past is_through none alike (inr k) =
        let s = k.0 in let is = k.1 in
        let whole : IsMaximalJoined g d s.district.bits =
        subst (λ e. IsMaximalJoined g e s.district.bits) (one_set is.d d _ is.ancestors are.ancestors) is.district in
        let same : has through s.first ≡ has through s.second =
        alike_in x through d ts (maximal_from g ok d ts are.districts) alike s.district.bits whole s.treatment s.first s.second is.from_x is.first_child
        is.second_child is.first_in is.second_in ((parts_from g ok d ts low are.districts).cover s.first (whole.inside s.first is.first_in)) in
        none s.treatment s.first is.from_x is.first_child (same ∙ is_through.complete s.second is.through) (is_past.complete s.first is.past)

  module _ (x m y z through summed : ℕ) (target : IsNaturalTarget g x m y z) (ps : List PlainDerivedPart) (qs : List PlainPart)
      (found : HasNaturalDistricts g x m y z ps through summed) (read : AreReadAs (ReadsThrough g x through) ps qs) where
    pub natural_accepted : AcceptsNatural g x m y z ps qs
    natural_accepted = record {
      clear = found.clear;
      parts = record { d = found.d; sets = found.sets; are = found.are; accepted = found.accepted };
      through = through;
      is_through = found.is_through;
      read = read;
    }

    none : (c : ℕ) → IsRecantingWitness g (has x) (has m) (has y) c → ⊥
    none c k = found.clear (inl (
      record { treatment = k.parent; child = c },
      record { from_x = k.from_x; arrow = k.arrow; through = k.through; past = k.past },
    ))

    pub natural_effect : EqualsNatural g x m y z summed qs
    natural_effect =
        let right = natural_right x through found.sets ps qs (natural_sets x m y z found.d target found.sets found.are) found.accepted found.alike read in
        subst (λ s. EqualsNatural g x m y z s qs) (sym found.summed) (natural_formula_is_right g ok x m y z found.d target none qs (record {
          ancestors = found.are.ancestors;
          through = through;
          is_through = found.is_through;
          districts = subst (AreDistrictsOf g found.d) (sym right.0) found.are.districts;
          right = right.1;
        }))

  -- ---- effects among the treated
  module _ (x y z summed : ℕ) (target : IsTreatedTarget g x y z) (ps : List PlainDerivedPart) (qs : List PlainPart)
      (found : HasTreatedDistricts g x y z ps summed) (read : AreReadAs (ReadsOwn x) ps qs) where
    pub treated_accepted : AcceptsTreated g x y z ps qs
    treated_accepted = record {
      clear = found.clear;
      parts = record { a = found.a; sets = found.sets; are = found.are; accepted = found.accepted };
      read = read;
    }

    pub treated_effect : EqualsAmongParts g x y z summed qs
    treated_effect =
        let low = ancestors_low g ok found.a (has (union (union x z) y)) found.are.ancestors in
        let sets = sets_of_maximal g found.a low found.sets (maximal_from g ok found.a found.sets found.are.districts) in
        let right = treated_right x found.sets ps qs sets found.accepted read in
        subst (λ s. EqualsAmongParts g x y z s qs) (sym found.summed)
        (treated_parts_are_right g ok x y z found.a target found.clear qs (record {
          ancestors = found.are.ancestors;
          districts = subst (AreDistrictsOf g found.a) (sym right.0) found.are.districts;
          right = right.1;
        }))
