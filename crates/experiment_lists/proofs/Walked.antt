-- The faults of experiments, walked one after the other, and the sets that they name.
use Rattle.std.proofs.Common.{◌≡◌, ◌<◌, ◌+◌, map, get_or, drop, drop-cons, append-nil, ℕ, false, List, [], ◌∷◌, ◌++◌, length, None, refl, sym, ap}
use Rattle.std.proofs.Common.{subst, ◌∙◌, append_assoc, arith}
use Rattle.std.specs.Prelude.{suc}
use Rattle.std.specs.Global.{Vec}
use Rattle.command_words.specs.Vocabulary.{names_in}
use Rattle.mixed_graph.specs.declared.sets.VSet.{VSet}
use Rattle.mixed_graph.specs.Vocabulary.{has}
use Rattle.prob_expr.specs.Vocabulary.{masks_of}
use Rattle.targets.specs.declared.fault.TargetFault.{TargetFault}
use Rattle.targets.specs.Vocabulary.{or_fault, first_fault, walked_in, IsListedSet, IsNameFault}
use Rattle.targets.proofs.Queries.{from_empty}
use Rattle.targets.proofs.Walking.{fault_first}
use Rattle.experiment_lists.specs.Sets.{experiments_fault, AreExperimentSets}

-- the experiments that were walked, with their sets, and those still to come
pub record AreWalked (all observed : List (List ℕ)) (experiments : List (List (List ℕ))) (done : List ℕ) (rest : List (List (List ℕ))) : Type 0 where
  pub faults : experiments_fault all observed experiments ≡ experiments_fault all observed rest
  pub made : (zs : List ℕ) → AreExperimentSets observed rest zs → AreExperimentSets observed experiments (done ++ zs)

pub walked_none : (all observed : List (List ℕ)) (experiments : List (List (List ℕ))) → AreWalked all observed experiments [] experiments
walked_none all observed experiments = record { faults = refl; made = λ zs are. are }

-- what is walked, where the next one has no fault
pub walked_more : (all observed : List (List ℕ)) (experiments rest : List (List (List ℕ))) (done more : List ℕ) (e : List (List ℕ)) (z : ℕ) → more ≡ done ++ z
    ∷ []
    → first_fault all observed (λ n. false) e ≡ None → IsListedSet observed e z → AreWalked all observed experiments done (e ∷ rest)
    → AreWalked all observed experiments more rest
walked_more all observed experiments rest done more e z pushed none set w = record {
  faults = w.faults ∙ ap (λ o. or_fault o (experiments_fault all observed rest)) none;
  made = λ zs are. subst (AreExperimentSets observed experiments) (sym (ap (λ (ms : List ℕ). ms ++ zs) pushed ∙ append_assoc done (z ∷ []) zs))
      (w.made (z ∷ zs) (set, are));
}

-- a fault of the next experiment is the first of all
pub fault_next : (all observed : List (List ℕ)) (experiments rest : List (List (List ℕ))) (done : List ℕ) (e : List (List ℕ)) (empty : ℕ)
    → ((v : ℕ) → has empty v ≡ false)
    → AreWalked all observed experiments done (e ∷ rest) → (f : TargetFault) → IsNameFault (first_fault all observed (walked_in observed empty) e) f
    → IsNameFault (experiments_fault all observed experiments) f
fault_next all observed experiments rest done e empty none w f h =
    subst (λ o. IsNameFault o f) (sym w.faults)
    (fault_first (first_fault all observed (λ n. false) e) (experiments_fault all observed rest) f
    (subst (λ o. IsNameFault o f) (sym (from_empty all observed empty none e)) h))

-- all are walked
pub walked_done : (all observed : List (List ℕ)) (experiments rest : List (List (List ℕ))) (done : List ℕ) → rest ≡ []
    → AreWalked all observed experiments done rest → AreExperimentSets observed experiments done
walked_done all observed experiments rest done e w =
    subst (AreExperimentSets observed experiments) (append-nil done) (w.made []
    (subst (λ (r : List (List (List ℕ))). AreExperimentSets observed r []) (sym e) tt))

-- the lists still to come, by the next of them
pub lists-drop : (lists : List (Vec (Vec ℕ))) (i : ℕ) (v : Vec (Vec ℕ)) → i < length lists → get_or lists i v ≡ v → map names_in (drop i lists) ≡ names_in v
    ∷ map names_in (drop (i + 1) lists)
lists-drop lists i v lt is =
    ap (map names_in) (drop-cons lists i v lt ∙ ap (λ k. get_or lists i v ∷ drop k lists) {x = suc i} {y = i + 1} (omega arith))
    ∙ ap (λ u. names_in u ∷ map names_in (drop (i + 1) lists)) is

-- one more set at the end
pub masks_pushed : (items old : List VSet) (s : VSet) → items ≡ old ++ s ∷ [] → masks_of items ≡ masks_of old ++ s.bits ∷ []
masks_pushed items [] s e = ap masks_of e
masks_pushed items (x ∷ xs) s e = ap masks_of e ∙ ap (λ (ms : List ℕ). x.bits ∷ ms) (masks_pushed (xs ++ s ∷ []) xs s refl)
