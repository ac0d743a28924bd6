-- Lists name one set each, and no fault where they name sets.
use Rattle.std.proofs.Common.{◌≡◌, ◌⊎◌, ◌<◌, ℕ, zero, suc, Bool, false, List, [], ◌∷◌, Option, None, inl, inr, sym, subst, ◌∙◌, IsTrue, arith}
use Rattle.std.proofs.lemmas.Bool.{cases_Bool, cases_lt, false_from_ne_true}
use Rattle.std.proofs.lemmas.Option.{none-some}
use Rattle.mixed_graph.specs.Vocabulary.{has, Within}
use Rattle.mixed_graph.proofs.Masks.{same_from_has, zero_from_empty}
use Rattle.targets.specs.declared.fault.TargetFault.{TargetFault}
use Rattle.targets.specs.declared.fault.TargetFault.TheVariants.{EmptyY, EmptyX}
use Rattle.targets.specs.Vocabulary.{NameFault, IsListedSet, IsFaultOfTarget, Lists, AreSets, EffectLists, effect_fault, AreEffectSets, IsEffectFault}
use Rattle.targets.specs.declared.fault.TargetFault.TheVariants.{Unknown, Latent, Twice}
use Rattle.targets.specs.Targets.{unknown, latent, twice}

-- a list names one set
pub one_set : (observed list : List (List ℕ)) (a b : ℕ) → IsListedSet observed list a → IsListedSet observed list b → b ≡ a
one_set observed list a b s t = same_from_has b a (λ v. t v ∙ sym (s v))

-- where no name is at fault and neither list is empty there is no fault
pub no_fault_of : (first : Option NameFault) (y x : List (List ℕ)) (f : TargetFault) → first ≡ None → (y ≡ [] → ⊥) → (x ≡ [] → ⊥)
    → IsFaultOfTarget first y x f → ⊥
no_fault_of first y x (Unknown t) none some_y some_x h = none-some (unknown t) (sym none ∙ h)
no_fault_of first y x (Latent t) none some_y some_x h = none-some (latent t) (sym none ∙ h)
no_fault_of first y x (Twice t) none some_y some_x h = none-some (twice t) (sym none ∙ h)
no_fault_of first y x EmptyY none some_y some_x h = some_y h.1
no_fault_of first y x EmptyX none some_y some_x h = some_x h.2
no_fault_of first y x f none some_y some_x h = h

-- a list with a name, for faults that don't ask whether x has one
pub some_list : List (List ℕ)
some_list = [] ∷ []

-- this list isn't empty
pub is_some_list : some_list ≡ [] → ⊥
unfolding some_list
is_some_list e = cc e

-- an empty x is no fault of an effect
effect_fault_of : (l : EffectLists) (f : TargetFault) → IsEffectFault l f → IsFaultOfTarget (effect_fault l) l.y some_list f
effect_fault_of l EmptyX h = absurd h
effect_fault_of l f h = h

-- lists that name the sets of an effect have no fault
pub no_effect_fault : (l : EffectLists) (x y : ℕ) (f : TargetFault) → AreEffectSets l x y → IsEffectFault l f → ⊥
no_effect_fault l x y f s h = no_fault_of (effect_fault l) l.y some_list f s.no_fault s.some_y is_some_list (effect_fault_of l f h)

-- what holds of three sets holds of those that the same lists name
pub same_three : (P : ℕ → ℕ → ℕ → Type 0) (l : Lists) (x y w x' y' w' : ℕ) → AreSets l x y w → AreSets l x' y' w' → P x' y' w' → P x y w
same_three P l x y w x' y' w' s t p =
    subst (λ (k : ℕ). P k y w) (one_set l.observed l.x x x' s.set_x t.set_x)
    (subst (λ (k : ℕ). P x' k w) (one_set l.observed l.y y y' s.set_y t.set_y)
    (subst (λ (k : ℕ). P x' y' k) (one_set l.observed l.given w w' s.set_given t.set_given) p))

-- and so of the two of an effect
pub same_two : (P : ℕ → ℕ → Type 0) (l : EffectLists) (x y x' y' : ℕ) → AreEffectSets l x y → AreEffectSets l x' y' → P x' y' → P x y
same_two P l x y x' y' s t p =
    subst (λ (k : ℕ). P k y) (one_set l.observed l.x x x' s.set_x t.set_x) (subst (λ (k : ℕ). P x' k) (one_set l.observed l.y y y' s.set_y t.set_y) p)

-- a member below n, or none
found_below : (s : ℕ → Bool) (n : ℕ) → ((v : ℕ) × IsTrue (s v)) ⊎ ((v : ℕ) → v < n → s v ≡ false)
found_below s zero = inr (λ v h. absurd (omega arith))
found_below s (suc n) = elim (found_below s n) [
  | inl found ↦ inl found
  | inr none ↦ elim (cases_Bool (s n)) [
    | inl e ↦ inl (n, e)
    | inr e ↦ inr (λ v h. elim (cases_lt v n) [
      | inl lt ↦ none v lt
      | inr ge ↦ let at : n ≡ v = omega arith in subst (λ (k : ℕ). s k ≡ false) at e
    ])
  ]
]

-- a set within n that isn't empty has a member
pub some_member : (n mask : ℕ) → Within n (has mask) → 0 < mask → (v : ℕ) × IsTrue (has mask v)
some_member n mask within some = elim (found_below (has mask) n) [
  | inl found ↦ found
  | inr none ↦ absurd (let none_at : mask ≡ 0 = zero_from_empty mask (λ v. false_from_ne_true (has mask v) (λ e. let f = none v (within v e) in absurd cc)) in
      omega arith)
]
