-- Experiments that have names name sets that aren't empty.
use Rattle.std.proofs.Common.{◌≡◌, ℕ, Bool, true, false, not, ◌&&◌, List, [], ◌∷◌, length, None, refl, subst, arith}
use Rattle.std.specs.List.{list_all}
use Rattle.std.proofs.lemmas.Bool.{and_parts}
use Rattle.mixed_graph.specs.Vocabulary.{has, Within, is_below, is_empty}
use Rattle.mixed_graph.proofs.MaskLaws.{below_from, not_empty}
use Rattle.do_derivation.specs.Vocabulary.{are_sets}
use Rattle.targets.specs.Vocabulary.{first_fault}
use Rattle.targets.proofs.Queries.{set_within, neither}
use Rattle.targets.proofs.RuleWalks.{some_in}
use Rattle.experiment_lists.specs.Words.{Lists, is_filled}
use Rattle.experiment_lists.specs.Sets.{experiments_fault, AreExperimentSets}

both_true : (a b : Bool) → a ≡ true → b ≡ true → (a && b) ≡ true
both_true a b e f = rw (e, f) refl

some_name : (names : List (List ℕ)) → is_filled names ≡ true → names ≡ [] → ⊥
some_name [] h e = cc h
some_name (n ∷ ns) h e = cc e

-- there is one set for each experiment
pub one_set_each : (observed : List (List ℕ)) (lists : Lists) (zs : List ℕ) → AreExperimentSets observed lists zs → length zs ≡ length lists
one_set_each observed [] [] are = refl
one_set_each observed [] (z ∷ zs) are = absurd are
one_set_each observed (e ∷ es) [] are = absurd are
one_set_each observed (e ∷ es) (z ∷ zs) are = (let more = one_set_each observed es zs are.1 in omega (arith, more))

-- each of them has a member, and is within the observed vertices
pub sets_filled : (all observed : List (List ℕ)) (n : ℕ) → length observed ≡ n → (lists : Lists) → list_all is_filled lists ≡ true
    → experiments_fault all observed lists ≡ None
    → (zs : List ℕ) → AreExperimentSets observed lists zs → are_sets n zs ≡ true
sets_filled all observed n e [] filled clear [] are = refl
sets_filled all observed n e [] filled clear (z ∷ zs) are = absurd are
sets_filled all observed n e (l ∷ ls) filled clear [] are = absurd are
sets_filled all observed n e (l ∷ ls) filled clear (z ∷ zs) are =
    let names = and_parts (is_filled l) (list_all is_filled ls) filled in
    let faults = neither (first_fault all observed (λ n. false) l) (experiments_fault all observed ls) clear in
    let within : Within n (has z) = subst (λ k. Within k (has z)) e (set_within observed l z are.0) in
    let some = some_in all observed (λ n. false) l z faults.0 (some_name l names.0) are.0 in
    both_true (is_below n z && not (is_empty z)) (are_sets n zs)
    (both_true (is_below n z) (not (is_empty z)) (below_from n z within) (not_empty z (λ none. absurd (omega (arith, some, none)))))
    (sets_filled all observed n e ls names.1 faults.1 zs are.1)
