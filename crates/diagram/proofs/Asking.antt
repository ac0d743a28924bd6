-- The lists of a question, walked one after the other, and lists that name nothing.
use Rattle.std.proofs.Common.{◌≡◌, ℕ, ◌<◌, Bool, true, false, ◌||◌, List, [], ◌∷◌, ◌++◌, length, None, Result, Ok, Err, IfOk, refl, sym, ap, subst, ◌∙◌, arith}
use Rattle.std.specs.Prelude.{nat_lt}
use Rattle.std.proofs.lemmas.Bool.{and_right}
use Rattle.mixed_graph.specs.declared.sets.VSet.{VSet}
use Rattle.mixed_graph.specs.Vocabulary.{has, AreNames, Within}
use Rattle.mixed_graph.proofs.Masks.{zero_from_empty}
use Rattle.targets.specs.declared.fault.TargetFault.{TargetFault}
use Rattle.targets.specs.Vocabulary.{first_fault, walked_in, IsListedSet, IsNameFault, listed, Lists, AreListedSets}
use Rattle.targets.proofs.Queries.{first_fault-append, from_empty, after_list, behind}
use Rattle.targets.proofs.RuleWalks.{some_in}
use Rattle.targets.proofs.Walking.{fault_first}
use Rattle.diagram.proofs.Defaults.{listed_set}

module _ (all observed : List (List ℕ)) where
  -- a fault of the first list is one of all lists
  pub first_of_all : (empty : ℕ) (list later : List (List ℕ)) → ((v : ℕ) → has empty v ≡ false) → (f : TargetFault)
      → IsNameFault (first_fault all observed (walked_in observed empty) list) f → IsNameFault (first_fault all observed (λ n. false) (list ++ later)) f
  first_of_all empty list later none f h =
      subst (λ o. IsNameFault o f)
      (sym (from_empty all observed empty none (list ++ later) ∙ first_fault-append all observed (walked_in observed empty) list later))
      (fault_first _ _ f h)

  -- and so is one of a list in the middle
  pub first_of_rest : (walked : ℕ) (list later : List (List ℕ)) (f : TargetFault) → IsNameFault (first_fault all observed (walked_in observed walked) list) f
      → IsNameFault (first_fault all observed (walked_in observed walked) (list ++ later)) f
  first_of_rest walked list later f h = subst (λ o. IsNameFault o f) (sym (first_fault-append all observed (walked_in observed walked) list later))
      (fault_first _ _ f h)

  -- behind the first list its set was walked
  pub behind_first : (empty set : ℕ) (list later : List (List ℕ)) → ((v : ℕ) → has empty v ≡ false)
      → first_fault all observed (walked_in observed empty) list ≡ None → IsListedSet observed list set
      → first_fault all observed (λ n. false) (list ++ later) ≡ first_fault all observed (walked_in observed set) later
  behind_first empty set list later none clear is = from_empty all observed empty none (list ++ later)
      ∙ after_list all observed empty set set list later clear is (λ v. sym (ap (λ b. b || has set v) (none v)))

  -- a list without fault that names the empty set is empty
  pub empty_list : (walked : List ℕ → Bool) (list : List (List ℕ)) (set : ℕ) → first_fault all observed walked list ≡ None
      → IsListedSet observed list set → set ≡ 0
      → list ≡ []
  empty_list walked [] set clear is e = refl
  empty_list walked (n ∷ ns) set clear is e = absurd (let some = some_in all observed walked (n ∷ ns) set clear (λ q. cc) is in omega (arith, some, e))

  -- an empty list names the empty set
  pub no_list : (list : List (List ℕ)) (set : ℕ) → IsListedSet observed list set → list ≡ [] → set ≡ 0
  no_list list set is e = zero_from_empty set (λ v. subst (λ (ns : List (List ℕ)). IsListedSet observed ns set) e is v ∙ and_right
      (nat_lt v (length observed)) false refl)

-- the set x of lists is empty where the list is
pub empty_exposures : (l : Lists) (x y given : ℕ) → AreListedSets l x y given → x ≡ 0 → l.x ≡ []
empty_exposures l x y given s = empty_list l.all l.observed (λ n. false) l.x x (behind l.all l.observed (λ n. false) l.x (l.y ++ l.given) s.no_fault).0 s.set_x

-- a set that is given is the one that its names list
pub given_set : {E : Type 0} (names : List (List ℕ)) → AreNames names → (s : ℕ) → Within (length names) (has s) → (r : Result VSet E)
    → IfOk r (λ (t : VSet). t.bits ≡ s) → IfOk r (λ (t : VSet). IsListedSet names (listed names s None) t.bits)
given_set names are s within (Ok t) same = subst (λ (k : ℕ). IsListedSet names (listed names s None) k) (sym same) (listed_set names are s within)
given_set names are s within (Err e) same = tt
