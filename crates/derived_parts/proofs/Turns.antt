-- The parts in turn.
use Rattle.std.proofs.Common.{ℕ, zero, suc, ◌+◌, ◌≡◌, ◌<◌, ◌≤◌, true, not, refl, sym, ap, ◌∙◌, List, [], ◌∷◌, length, get_or, drop, inl, inr, subst, arith}
use Rattle.std.proofs.lemmas.List.{at_drop_more, at_drop_all}
use Rattle.mixed_graph.specs.declared.sets.VSet.{VSet}
use Rattle.mixed_graph.specs.Vocabulary.{MixedGraph, minus, all, is_empty, is_below}
use Rattle.mixed_graph.proofs.MaskLaws.{filled_from}
use Rattle.finite_models.proofs.Bools.{and_first, and_second}
use Rattle.prob_expr.specs.Vocabulary.{masks_of, is_term}
use Rattle.do_derivation.specs.Vocabulary.{AcceptsNot, UnlessNoMemory, are_sets}
use Rattle.do_derivation.specs.declared.faults.CheckFault.{CheckFault}
use Rattle.do_derivation.specs.declared.faults.CheckFault.TheVariants as checks
use Rattle.do_derivation.proofs.Accepted.{start_term}
use Rattle.do_derivation.proofs.TermSets.{term_test}
use Rattle.derived_parts.specs.declared.part.DerivedPart.{DerivedPart}
use Rattle.derived_parts.specs.declared.fault.PartsFault.{PartsFault}
use Rattle.derived_parts.specs.declared.fault.PartsFault.TheVariants.{Missing, Further, District, Derivation, NoMemory}
use Rattle.derived_parts.specs.Parts.{AreSound, IsSound, PlainDerivedPart, derived_view, derived_views}
use Rattle.derived_parts.specs.Accepted.{AreAccepted, IsAcceptedPart, IsPartFault, IsPartsFault, UnlessMemory, district_target, fault_at, is_set}

pub unless_weaker : (why : PartsFault) (P Q : Type 0) → (P → Q) → UnlessMemory why P → UnlessMemory why Q
unless_weaker (Missing k c) P Q f p = f p
unless_weaker (Further k) P Q f p = f p
unless_weaker (District k c) P Q f p = f p
unless_weaker (Derivation k why) P Q f p = f p
unless_weaker NoMemory P Q f p = tt

-- of a set below n that isn't empty the effect may be asked
pub target_is_term : (n c : ℕ) → is_set n c ≡ true → is_term n c (minus (all n) c) 0 ≡ true
target_is_term n c h = term_test n c (minus (all n) c) 0 (start_term n c (and_first (is_below n c) (not (is_empty c)) h))
    (filled_from c (and_second (is_below n c) (not (is_empty c)) h))

-- the fault of a derivation is one of its part
pub of_derivation : (g : MixedGraph) (k c : ℕ) (p : PlainDerivedPart) (why : CheckFault) → p.district ≡ c
    → UnlessNoMemory why (AcceptsNot g [] (district_target g c) p.formula p.derivation why) → UnlessMemory (fault_at k why) (IsPartFault g k c p (fault_at k why))
of_derivation g k c p (checks.Step place fault) same h = inr (same, (checks.Step place fault, h, refl))
of_derivation g k c p (checks.EndDiffers n) same h = inr (same, (checks.EndDiffers n, h, refl))
of_derivation g k c p checks.DoLeft same h = inr (same, (checks.DoLeft, h, refl))
of_derivation g k c p checks.NoMemory same h = tt

-- the set and the part at hand
pub set_here : (n : ℕ) (cs : List VSet) (k : ℕ) (d : VSet) → are_sets n (masks_of cs) ≡ true → k < length cs → is_set n (get_or cs k d).bits ≡ true
set_here n [] k d h lt = absurd (omega arith)
set_here n (x ∷ cs) zero d h lt = and_first (is_set n x.bits) (are_sets n (masks_of cs)) h
set_here n (x ∷ cs) (suc k) d h lt = set_here n cs k d (and_second (is_set n x.bits) (are_sets n (masks_of cs)) h) (omega arith)

pub sound_here : (n : ℕ) (ps : List DerivedPart) (k : ℕ) (p : DerivedPart) → AreSound n (derived_views ps) → k < length ps → p ≡ get_or ps k p
    → IsSound n (derived_view p)
sound_here n [] k p h lt is = absurd (omega arith)
sound_here n (x ∷ ps) zero p h lt is = subst (λ (q : DerivedPart). IsSound n (derived_view q)) (sym is) h.0
sound_here n (x ∷ ps) (suc k) p h lt is = sound_here n ps k p h.1 (omega arith) is

-- what holds of the districts and parts from number k on holds of all
pub record IsChecking (g : MixedGraph) (cs : List VSet) (ps : List DerivedPart) (k : ℕ) : Type 0 where
  pub room : k ≤ length ps
  pub accepted : AreAccepted g (masks_of (drop k cs)) (derived_views (drop k ps)) → AreAccepted g (masks_of cs) (derived_views ps)
  pub fails : (why : PartsFault) → IsPartsFault g k (masks_of (drop k cs)) (derived_views (drop k ps)) why
      → IsPartsFault g 0 (masks_of cs) (derived_views ps) why

module _ (g : MixedGraph) (cs : List VSet) (ps : List DerivedPart) (k : ℕ) (c d : VSet) (lt : k < length cs) (is : c ≡ get_or cs k d)
    (left : IsChecking g cs ps k) where
  sets_here : masks_of (drop k cs) ≡ c.bits ∷ masks_of (drop (k + 1) cs)
  sets_here = at_drop_more (λ xs. masks_of xs) cs k d lt ∙ ap (λ (x : VSet). x.bits ∷ masks_of (drop (k + 1) cs)) (sym is)

  pub part_missing : length ps ≤ k → IsPartsFault g 0 (masks_of cs) (derived_views ps) (Missing k c)
  part_missing le = left.fails (Missing k c) (subst (λ xs. IsPartsFault g k xs (derived_views (drop k ps)) (Missing k c)) (sym sets_here)
      (subst (λ ys. IsPartsFault g k (c.bits ∷ masks_of (drop (k + 1) cs)) ys (Missing k c)) (sym (at_drop_all (λ xs. derived_views xs) ps k le)) refl))

  module _ (p : DerivedPart) (room : k < length ps) (at : p ≡ get_or ps k p) where
    parts_here : derived_views (drop k ps) ≡ derived_view p ∷ derived_views (drop (k + 1) ps)
    parts_here = at_drop_more (λ xs. derived_views xs) ps k p room ∙ ap (λ x. derived_view x ∷ derived_views (drop (k + 1) ps)) (sym at)

    pub part_fails : (why : PartsFault) → IsPartFault g k c.bits (derived_view p) why → IsPartsFault g 0 (masks_of cs) (derived_views ps) why
    part_fails why h = left.fails why (subst (λ xs. IsPartsFault g k xs (derived_views (drop k ps)) why) (sym sets_here)
        (subst (λ ys. IsPartsFault g k (c.bits ∷ masks_of (drop (k + 1) cs)) ys why) (sym parts_here) (inl h)))

    pub checking_more : IsAcceptedPart g c.bits (derived_view p) → IsChecking g cs ps (k + 1)
    checking_more own = record {
      room = omega arith;
      accepted = λ h. left.accepted (subst (λ xs. AreAccepted g xs (derived_views (drop k ps))) (sym sets_here)
          (subst (λ ys. AreAccepted g (c.bits ∷ masks_of (drop (k + 1) cs)) ys) (sym parts_here) (own, h)));
      fails = λ why h. left.fails why (subst (λ xs. IsPartsFault g k xs (derived_views (drop k ps)) why) (sym sets_here)
          (subst (λ ys. IsPartsFault g k (c.bits ∷ masks_of (drop (k + 1) cs)) ys why) (sym parts_here) (inr (own, h))));
    }

-- what is left of a longer list
rest_of : (ps : List DerivedPart) (k : ℕ) → k < length ps → (p : DerivedPart) × (qs : List DerivedPart) × (drop k ps ≡ p ∷ qs)
rest_of [] k lt = absurd (omega arith)
rest_of (p ∷ ps) zero lt = (p, ps, refl)
rest_of (p ∷ ps) (suc k) lt = rest_of ps k (omega arith)

-- at the end of the districts
module _ (g : MixedGraph) (cs : List VSet) (ps : List DerivedPart) (k : ℕ) (done : length cs ≤ k) (left : IsChecking g cs ps k) where
  none_left : masks_of (drop k cs) ≡ []
  none_left = at_drop_all (λ xs. masks_of xs) cs k done

  pub all_accepted : length ps ≤ k → AreAccepted g (masks_of cs) (derived_views ps)
  all_accepted le = left.accepted (subst (λ xs. AreAccepted g xs (derived_views (drop k ps))) (sym none_left)
      (subst (λ ys. AreAccepted g [] ys) (sym (at_drop_all (λ xs. derived_views xs) ps k le)) tt))

  pub part_further : k < length ps → IsPartsFault g 0 (masks_of cs) (derived_views ps) (Further k)
  part_further lt = let r = rest_of ps k lt in
      left.fails (Further k) (subst (λ xs. IsPartsFault g k xs (derived_views (drop k ps)) (Further k)) (sym none_left)
      (subst (λ (ys : List DerivedPart). IsPartsFault g k [] (derived_views ys) (Further k)) (sym r.2) refl))
