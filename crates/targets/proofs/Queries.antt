-- The faults of several lists that are walked one after the other.
use Rattle.std.proofs.Common.{◌≡◌, ℕ, ◌+◌, ◌<◌, Bool, true, false, ◌&&◌, ◌||◌, bit_or, List, [], ◌∷◌, ◌++◌, length, Option, Some, None, refl, sym, ap}
use Rattle.std.proofs.Common.{subst, ◌∙◌, append_assoc, arith}
use Rattle.std.specs.Prelude.{cond, not, nat_lt}
use Rattle.std.specs.Str.{bytes_eq}
use Rattle.std.proofs.lemmas.Bool.{lt-ltb, ltb-true}
use Rattle.mixed_graph.specs.Vocabulary.{has, Within, is_named, index_of, name_of}
use Rattle.mixed_graph.proofs.Masks.{has-or}
use Rattle.targets.specs.declared.fault.TargetFault.{TargetFault}
use Rattle.targets.specs.Targets.{NameFault, name_fault, or_fault, first_fault, walked_in, IsListedSet, IsNameFault}
use Rattle.targets.proofs.Walking.{named_here, same_first_fault, fault_first}

or_fault_assoc : (a b c : Option NameFault) → or_fault (or_fault a b) c ≡ or_fault a (or_fault b c)
or_fault_assoc (Some f) b c = refl
or_fault_assoc None b c = refl

or_assoc : (a b c : Bool) → ((a || b) || c) ≡ (a || (b || c))
or_assoc true b c = refl
or_assoc false b c = refl

or_false : (a : Bool) → (a || false) ≡ a
or_false true = refl
or_false false = refl

-- the second list is walked after the first
pub first_fault-append : (all observed : List (List ℕ)) (s : List ℕ → Bool) (xs ys : List (List ℕ)) →
    first_fault all observed s (xs ++ ys) ≡ or_fault (first_fault all observed s xs) (first_fault all observed (λ m. s m || is_named xs m) ys)
first_fault-append all observed s [] ys = same_first_fault all observed s (λ m. s m || false) (λ m h. sym (or_false (s m))) ys
first_fault-append all observed s (x ∷ xs) ys =
    ap (or_fault (name_fault all observed s x))
    (first_fault-append all observed (λ m. s m || bytes_eq m x) xs ys
    ∙ ap (or_fault (first_fault all observed (λ m. s m || bytes_eq m x) xs))
    (same_first_fault all observed (λ m. (s m || bytes_eq m x) || is_named xs m) (λ m. s m || (bytes_eq m x || is_named xs m))
    (λ m h. or_assoc (s m) (bytes_eq m x) (is_named xs m)) ys))
    ∙ sym (or_fault_assoc (name_fault all observed s x) (first_fault all observed (λ m. s m || bytes_eq m x) xs) _)

-- a name of the list has an index in it
named_below : (names : List (List ℕ)) (n : List ℕ) → is_named names n ≡ true → index_of names n < length names
named_below [] n h = absurd (cc)
named_below (x ∷ xs) n h = go (bytes_eq n x) refl (named_below xs n)
  where
    go : (b : Bool) → bytes_eq n x ≡ b → (is_named xs n ≡ true → index_of xs n < length xs) → cond (not b) (1 + index_of xs n) 0 < length (x ∷ xs)
    go true e later = omega arith
    go false e later = let there : is_named xs n ≡ true = rw e at h in omega (arith, later there)

-- whether an observed name is in the list, by the set of the list
pub set_test : (observed list : List (List ℕ)) (mask : ℕ) → IsListedSet observed list mask → (m : List ℕ) → is_named observed m ≡ true
    → walked_in observed mask m ≡ is_named list m
set_test observed list mask s m h =
    s (index_of observed m)
    ∙ ap (λ b. b && is_named list (name_of observed (index_of observed m))) (lt-ltb (index_of observed m) (length observed) (named_below observed m h))
    ∙ ap (is_named list) (named_here observed m h)

-- a set of listed names is within the observed vertices
pub set_within : (observed list : List (List ℕ)) (mask : ℕ) → IsListedSet observed list mask → Within (length observed) (has mask)
set_within observed list mask s v h = ltb-true v (length observed) (front (nat_lt v (length observed)) (is_named list (name_of observed v)) (sym (s v) ∙ h))
  where
    front : (a b : Bool) → (a && b) ≡ true → a ≡ true
    front true b e = refl
    front false b e = e

-- nothing was walked before the first list
pub from_empty : (all observed : List (List ℕ)) (empty : ℕ) → ((v : ℕ) → has empty v ≡ false) → (list : List (List ℕ)) →
    first_fault all observed (λ n. false) list ≡ first_fault all observed (walked_in observed empty) list
from_empty all observed empty none list = same_first_fault all observed (λ n. false) (walked_in observed empty) (λ m h. sym (none (index_of observed m))) list

-- a list without fault: what is left is walked behind its set
pub after_list : (all observed : List (List ℕ)) (before set now : ℕ) (list later : List (List ℕ)) →
    first_fault all observed (walked_in observed before) list ≡ None → IsListedSet observed list set → ((v : ℕ) → has now v ≡ (has before v || has set v)) →
    first_fault all observed (walked_in observed before) (list ++ later) ≡ first_fault all observed (walked_in observed now) later
after_list all observed before set now list later clear s is =
    first_fault-append all observed (walked_in observed before) list later
    ∙ ap (λ o. or_fault o (first_fault all observed (λ m. walked_in observed before m || is_named list m) later)) clear
    ∙ same_first_fault all observed (λ m. walked_in observed before m || is_named list m) (walked_in observed now)
    (λ m h. ap (λ b. walked_in observed before m || b) (sym (set_test observed list set s m h)) ∙ sym (is (index_of observed m))) later

-- neither of two has a fault where there is none first
pub neither : (a b : Option NameFault) → or_fault a b ≡ None → (a ≡ None) × (b ≡ None)
neither None b e = (refl, e)
neither (Some f) b e = absurd (cc)

-- what is left behind a list, where nothing has a fault
pub behind : (all observed : List (List ℕ)) (walked : List ℕ → Bool) (list later : List (List ℕ)) → first_fault all observed walked (list ++ later) ≡ None →
    (first_fault all observed walked list ≡ None) × (first_fault all observed (λ m. walked m || is_named list m) later ≡ None)
behind all observed walked list later clear = neither _ _ (sym (first_fault-append all observed walked list later) ∙ clear)

-- two lists without fault: what is left is walked behind their sets
after_two : (all observed : List (List ℕ)) (before one two now : ℕ) (a b later : List (List ℕ)) →
    first_fault all observed (walked_in observed before) (a ++ b) ≡ None → IsListedSet observed a one → IsListedSet observed b two
    → ((v : ℕ) → has now v ≡ (has before v || (has one v || has two v))) →
    first_fault all observed (walked_in observed before) (a ++ (b ++ later)) ≡ first_fault all observed (walked_in observed now) later
after_two all observed before one two now a b later clear is_one is_two is =
    let both = has-or before one in
    let first = (behind all observed (walked_in observed before) a b clear).0 in
    let second : first_fault all observed (walked_in observed (bit_or before one)) b ≡ None =
    sym (after_list all observed before one (bit_or before one) a b first is_one both) ∙ clear in
    after_list all observed before one (bit_or before one) a (b ++ later) first is_one both
    ∙ after_list all observed (bit_or before one) two now b later second is_two (λ v. let i = is v in let e = both v in grind arith)

-- the same where nothing was walked before them
pub after_first_two : (all observed : List (List ℕ)) (empty one two both : ℕ) (a b later : List (List ℕ)) → ((v : ℕ) → has empty v ≡ false) →
    first_fault all observed (walked_in observed empty) (a ++ b) ≡ None → IsListedSet observed a one → IsListedSet observed b two
    → ((v : ℕ) → has both v ≡ (has one v || has two v)) →
    first_fault all observed (λ n. false) (a ++ (b ++ later)) ≡ first_fault all observed (walked_in observed both) later
after_first_two all observed empty one two both a b later none clear is_one is_two is =
    from_empty all observed empty none (a ++ (b ++ later))
    ∙ after_two all observed empty one two both a b later clear is_one is_two (λ v. is v ∙ sym (ap (λ t. t || (has one v || has two v)) (none v)))

-- a fault in the first two of several lists is the first of all
pub fault_in_first_two : (all observed : List (List ℕ)) (empty : ℕ) (a b later : List (List ℕ)) → ((v : ℕ) → has empty v ≡ false) → (f : TargetFault) →
    IsNameFault (first_fault all observed (walked_in observed empty) (a ++ b)) f → IsNameFault (first_fault all observed (λ n. false) (a ++ (b ++ later))) f
fault_in_first_two all observed empty a b later none f h =
    let one = first_fault all observed (λ n. false) (a ++ b) in
    let other = first_fault all observed (λ m. false || is_named (a ++ b) m) later in
    let all_lists : first_fault all observed (λ n. false) (a ++ (b ++ later)) ≡ or_fault one other =
    ap (first_fault all observed (λ n. false)) (sym (append_assoc a b later)) ∙ first_fault-append all observed (λ n. false) (a ++ b) later in
    subst (λ o. IsNameFault o f) (sym all_lists) (fault_first one other f (subst (λ o. IsNameFault o f) (sym (from_empty all observed empty none (a ++ b))) h))
