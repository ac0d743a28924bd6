-- Sets that meet a district or stop its factor, one after the other.
use Rattle.std.proofs.Common.{ℕ, ◌+◌, ◌≡◌, ◌<◌, ◌≤◌, ◌⊎◌, true, false, eqb, inl, inr, List, [], ◌∷◌, ◌++◌, length, take, drop, get_or, Option, None}
use Rattle.std.proofs.Common.{Result, Ok, Err, refl, sym, ap, subst, ◌∙◌, eqb-true}
use Rattle.std.proofs.lemmas.List.{append-nil, map-append, take-append-drop, at_drop_more, at_drop_all, map_more}
use Rattle.std.specs.Prelude.{IfOk}
use Rattle.identification_theory.proofs.Bools.{clash, or_e}
use Rattle.mixed_graph.specs.declared.sets.VSet.{VSet}
use Rattle.mixed_graph.specs.Vocabulary.{MixedGraph, is_apart}
use Rattle.prob_expr.specs.Vocabulary.{masks_of, is_listed}
use Rattle.identify.specs.declared.factors.district_factor.Factor.{Factor}
use Rattle.identify.specs.declared.factors.district_factor.FactorFault.{FactorFault}
use Rattle.identify.specs.declared.factors.district_factor.FactorFault.TheVariants.{Stopped}
use Rattle.identify.specs.declared.factors.district_factor.FactorFault.TheVariants.{NoMemory}
use Rattle.surrogates.proofs.Rooms.{zero_apart}
use Rattle.surrogates.specs.Surrogates.{AllStop, ComesFirst, IsStoppedUnder}
use Rattle.surrogates.specs.Tries.{AllTriedInVain, IsAttempt, IsFirstOf, IsTriedInVain, IsTried, IsTryFault}

module _ (g : MixedGraph) (c : ℕ) where
  pub all_more : (zs : List ℕ) (z : ℕ) → AllTriedInVain g c zs → IsTriedInVain g c z → AllTriedInVain g c (zs ++ z ∷ [])
  all_more [] z h p = (p, tt)
  all_more (w ∷ zs) z h p = (h.0, all_more zs z h.1 p)

  -- what isn't passed after sets that are comes first
  pub first_after : (zs rest : List ℕ) (z : ℕ) → AllTriedInVain g c zs → is_apart z c ≡ true → ComesFirst g c z (zs ++ z ∷ rest)
  first_after [] rest z h off = ComesFirst.here off
  first_after (w ∷ zs) rest z h off = go h.0 (first_after zs rest z h.1 off)
    where
      go : (is_apart w c ≡ false) ⊎ ((is_apart w c ≡ true) × (big : ℕ) × IsStoppedUnder g w c big) → ComesFirst g c z (zs ++ z ∷ rest)
          → ComesFirst g c z (w ∷ (zs ++ z ∷ rest))
      go (inl m) r = ComesFirst.meets m r
      go (inr s) r = ComesFirst.stops s.0 s.2 r

  -- where all are passed, all that are apart stop
  pub all_stop : (zs : List ℕ) → AllTriedInVain g c zs → AllStop g c zs
  all_stop [] h = λ z e off. absurd (clash false e refl)
  all_stop (w ∷ zs) h = λ z e off. pick z off h.0 (or_e (eqb z w) (is_listed z zs) e) (all_stop zs h.1 z)
    where
      here : (z : ℕ) → is_apart z c ≡ true → z ≡ w → (is_apart w c ≡ false) ⊎ ((is_apart w c ≡ true) × (big : ℕ) × IsStoppedUnder g w c big) → (big : ℕ)
          × IsStoppedUnder g z c big
      here z off e (inl m) = absurd (clash (is_apart w c) (subst (λ v. is_apart v c ≡ true) e off) m)
      here z off e (inr s) = (s.1, subst (λ v. IsStoppedUnder g v c s.1) (sym e) s.2)

      pick : (z : ℕ) → is_apart z c ≡ true → IsTriedInVain g c w → (eqb z w ≡ true) ⊎ (is_listed z zs ≡ true)
          → (is_listed z zs ≡ true → is_apart z c ≡ true → (big : ℕ) × IsStoppedUnder g z c big) → (big : ℕ) × IsStoppedUnder g z c big
      pick z off p (inl e) r = here z off (eqb-true z w e) p
      pick z off p (inr e) r = r e off

  -- no experiment comes before the others
  pub none_before : (zs : List ℕ) (k big : ℕ) (f : Factor) → IsStoppedUnder g 0 c big → IsFirstOf g zs c k f → IsFirstOf g (0 ∷ zs) c k f
  none_before zs k big f s t = record { z = t.z; first = ComesFirst.stops (zero_apart c) s t.first; tried = t.tried }

-- a fault that isn't want of memory passes
pub passed_ok : {E : Type 0} (g : MixedGraph) (z c k : ℕ) → is_apart z c ≡ true → (fault : FactorFault) → IsTryFault g z c fault
    → (r : Result (Option Factor) E) → IfOk r (λ o. (o ≡ None) × (fault ≡ NoMemory → ⊥)) → IfOk r (IsAttempt g z c k)
passed_ok g z c k off fault is (Err e) h = tt
passed_ok g z c k off (Stopped big) is (Ok o) h = subst (IsAttempt g z c k) (sym h.0) (inr (off, big.bits, is))
passed_ok g z c k off NoMemory is (Ok o) h = absurd (h.1 refl)

-- ---- the sets as the loop goes over them
module _ (sets : List VSet) (i : ℕ) (lt : i < length sets) where
  pub masks_split : masks_of sets ≡ masks_of (take i sets) ++ (get_or sets i (record { bits = 0 })).bits ∷ masks_of (drop (i + 1) sets)
  masks_split = ap masks_of (sym (take-append-drop i sets)) ∙ map-append (λ (s : VSet). s.bits) (take i sets) (drop i sets)
      ∙ ap (λ r. masks_of (take i sets) ++ r) (at_drop_more (λ l. masks_of l) sets i (record { bits = 0 }) lt)

  pub masks_more : masks_of (take (i + 1) sets) ≡ masks_of (take i sets) ++ (get_or sets i (record { bits = 0 })).bits ∷ []
  masks_more = map_more (λ (s : VSet). s.bits) sets i (record { bits = 0 }) lt

  pub passed_next : (g : MixedGraph) (c : ℕ) → AllTriedInVain g c (masks_of (take i sets)) → IsTriedInVain g c (get_or sets i (record { bits = 0 })).bits
      → AllTriedInVain g c (masks_of (take (i + 1) sets))
  passed_next g c h p = subst (AllTriedInVain g c) (sym masks_more) (all_more g c (masks_of (take i sets)) (get_or sets i (record { bits = 0 })).bits h p)

  pub first_here : (g : MixedGraph) (c k : ℕ) (f : Factor) → AllTriedInVain g c (masks_of (take i sets)) → is_apart (get_or sets i (record { bits = 0 })).bits c
      ≡ true
      → IsTried g (get_or sets i (record { bits = 0 })).bits c k f → IsFirstOf g (masks_of sets) c k f
  first_here g c k f h off t = record {
    z = (get_or sets i (record { bits = 0 })).bits;
    first = subst (ComesFirst g c (get_or sets i (record { bits = 0 })).bits) (sym masks_split)
        (first_after g c (masks_of (take i sets)) (masks_of (drop (i + 1) sets)) (get_or sets i (record { bits = 0 })).bits h off);
    tried = t;
  }

pub masks_all : (sets : List VSet) (i : ℕ) → length sets ≤ i → masks_of (take i sets) ≡ masks_of sets
masks_all sets i le = ap masks_of (sym (append-nil (take i sets)) ∙ ap (λ r. take i sets ++ r) (sym (at_drop_all (λ l. l) sets i le)) ∙ take-append-drop i sets)
