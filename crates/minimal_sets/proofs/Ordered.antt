-- Ascending lists of sets.
use Rattle.std.proofs.Common.{true≢false}
use Rattle.std.proofs.Common.{◌≡◌, ℕ, zero, suc, ◌<◌, Bool, true, false, cond, ◌&&◌, ◌||◌, ◌==◌, inl, inr, refl, sym, ap, ◌∙◌, List, [], ◌∷◌}
use Rattle.std.proofs.Common.{◌++◌, get_or, length, nat_lt, arith, Bor}
use denote.Param.Members.{Mut}
use Rattle.std.specs.Cmp.{IsStrictWeakOrder}
use Rattle.std.specs.Cmp.Lexicographic.{slice_cmp, nat_list_cmp_total}
use Rattle.std.specs.Fn.{Called, ComparesAs}
use Rattle.std.specs.List.{AllPairs}
use Rattle.std.specs.List.Sorted.{IsPermutation, IsSortedBy}
use Rattle.std.specs.Ordering.{nat_cmp, ordering_then, ordering_reverse, is_lt}
use Rattle.std.specs.declared.cmp.Ordering.{Ordering}
use Rattle.std.specs.declared.cmp.Ordering.TheVariants.{Less, Equal, Greater}
use Rattle.std.proofs.lemmas.Bool.{cases_lt, cases_eq, eqb-true, eq-eqb, ne_eqb, lt-ltb, le-ltb, false_from_ne_true}
use Rattle.std.proofs.lemmas.Fn.{always_returns_same}
use Rattle.std.proofs.lemmas.List.Sorted.{ranks_by, sorted_far}
use Rattle.mixed_graph.specs.declared.sets.VSet.{VSet}
use Rattle.mixed_graph.specs.Vocabulary.{has, members_below}
use Rattle.mixed_graph.proofs.Masks.{same_from_has}
use Rattle.minimal_sets.specs.Listings.{IsBefore}
use Rattle.minimal_sets.specs.Lists.{Pairwise}
use Rattle.minimal_sets.specs.Progress.{AreOther}
use Rattle.minimal_sets.proofs.ListFacts.{pairwise_permuted}

-- ---- sets with one list of members are one
contains : ℕ → List ℕ → Bool
contains v [] = false
contains v (x ∷ xs) = (v == x) || contains v xs

or_again : (p q r : Bool) → ((p || q) || r) ≡ (p || (q || r))
or_again true q r = refl
or_again false q r = refl

contains-append : (v : ℕ) (xs ys : List ℕ) → contains v (xs ++ ys) ≡ (contains v xs || contains v ys)
unfolding contains
contains-append v [] ys = refl
contains-append v (x ∷ xs) ys = ap (λ b. (v == x) || b) (contains-append v xs ys) ∙ sym (or_again (v == x) (contains v xs) (contains v ys))

contains_one : (v k : ℕ) (b : Bool) → contains v (cond b (k ∷ []) []) ≡ (b && (v == k))
unfolding contains
contains_one v k true = or_none (v == k)
  where
    or_none : (p : Bool) → (p || false) ≡ p
    or_none true = refl
    or_none false = refl
contains_one v k false = refl

contains-members : (s : ℕ → Bool) (k v : ℕ) → contains v (members_below s k) ≡ (nat_lt v k && s v)
unfolding contains members_below
contains-members s zero v = rw (le-ltb v 0 (omega arith)) refl
contains-members s (suc k) v =
    contains-append v (members_below s k) (cond (s k) (k ∷ []) [])
    ∙ ap (λ b. b || contains v (cond (s k) (k ∷ []) [])) (contains-members s k v)
    ∙ ap (λ b. (nat_lt v k && s v) || b) (contains_one v k (s k))
    ∙ elim (cases_eq v k) [
      | inl e ↦ rw (e, le-ltb k k (omega arith), lt-ltb k (suc k) (omega arith), eq-eqb k k refl) (and_true (s k))
      | inr d ↦ rw (ne_eqb v k d) (elim (cases_lt v k) [
        | inl lt ↦ rw (lt-ltb v k lt, lt-ltb v (suc k) (omega arith)) (rest (s v) (s k))
        | inr ge ↦ rw (le-ltb v k ge, le-ltb v (suc k) (omega arith)) (none (s k))
      ])
    ]
  where
    and_true : (p : Bool) → (p && true) ≡ p
    and_true true = refl
    and_true false = refl

    none : (q : Bool) → (q && false) ≡ false
    none true = refl
    none false = refl

    rest : (p q : Bool) → (p || (q && false)) ≡ p
    rest true q = refl
    rest false q = none q

members_same : (s t : ℕ → Bool) (k : ℕ) → members_below s k ≡ members_below t k → (v : ℕ) → v < k → s v ≡ t v
members_same s t k e v lt =
    let a = contains-members s k v in let b = contains-members t k v in let c : contains v (members_below s k) ≡ contains v (members_below t k) =
    ap (contains v) e in let l = lt-ltb v k lt in
    sym (ap (λ p. p && s v) l) ∙ sym a ∙ c ∙ b ∙ ap (λ p. p && t v) l

pub same_bits : (a b : ℕ) → ((v : ℕ) → has a v ≡ true → v < 64) → ((v : ℕ) → has b v ≡ true → v < 64) → members_below (has a) 64 ≡ members_below (has b) 64
    → a ≡ b
same_bits a b low low' e = same_from_has a b (λ v. elim (cases_lt v 64) [
  | inl lt ↦ members_same (has a) (has b) 64 e v lt
  | inr ge ↦ false_from_ne_true (has a v) (λ h. let l = low v h in absurd (omega arith))
      ∙ sym (false_from_ne_true (has b v) (λ h. let l = low' v h in absurd (omega arith)))
])

-- ---- the order
equal_lists : (xs ys : List ℕ) → slice_cmp nat_cmp xs ys ≡ Equal → xs ≡ ys
equal_lists [] [] e = refl
equal_lists [] (y ∷ ys) e = absurd (cc)
equal_lists (x ∷ xs) [] e = absurd (cc)
equal_lists (x ∷ xs) (y ∷ ys) e = go (nat_lt x y) (x == y) refl e (equal_lists xs ys)
  where
    go : (a b : Bool) → (x == y) ≡ b → ordering_then (cond a Less (cond b Equal Greater)) (slice_cmp nat_cmp xs ys) ≡ Equal
        → (slice_cmp nat_cmp xs ys ≡ Equal → xs ≡ ys) → (x ∷ xs) ≡ (y ∷ ys)
    go true b q e ih = absurd (cc)
    go false true q e ih = let h = eqb-true x y q in let t = ih e in cc
    go false false q e ih = absurd (cc)

before_other : (s t : VSet) → (IsBefore t s → ⊥) → AreOther s t → IsBefore s t
before_other s t never other = go (slice_cmp nat_cmp (members_below (has t.bits) 64) (members_below (has s.bits) 64)) refl
  where
    go : (o : Ordering) → slice_cmp nat_cmp (members_below (has t.bits) 64) (members_below (has s.bits) 64) ≡ o → IsBefore s t
    go Less e = absurd (never e)
    go Equal e = absurd (other (sym (equal_lists (members_below (has t.bits) 64) (members_below (has s.bits) 64) e)))
    go Greater e = nat_list_cmp_total.antisymm (members_below (has s.bits) 64) (members_below (has t.bits) 64) ∙ ap ordering_reverse e

-- a list in ascending order, of which no two sets are the same
pub before_later : (sets : List VSet) → IsSortedBy (λ s t. is_lt (slice_cmp nat_cmp (members_below (has s.bits) 64) (members_below (has t.bits) 64))) sets
    → ((i j : ℕ) (d : VSet) → (i ≡ j → ⊥) → i < length sets → j < length sets → AreOther (get_or sets i d) (get_or sets j d)) → AllPairs IsBefore sets
before_later sets up other i j d lt below = before_other (get_or sets i d) (get_or sets j d)
    (λ b. true≢false (sym (ap is_lt b)
    ∙ sorted_far (λ s t. is_lt (slice_cmp nat_cmp (members_below (has s.bits) 64) (members_below (has t.bits) 64)))
    (ranks_by nat_list_cmp_total (λ s. members_below (has s.bits) 64)) sets up i j d (omega arith) below))
    (other i j d (λ e. omega (arith, e, lt)) (omega arith) below)

-- what a sort by a closure gives that compares the lists of members
pub sorted_sets : {F : Type 0} {g : Mut F (Bor VSet × (Bor VSet × Unit {0})) Ordering} {f : F} (old new : List VSet)
    → ((lt : VSet → VSet → Bool) → IsStrictWeakOrder lt → ComparesAs g lt f → IsSortedBy lt new)
    → ((a : Bor VSet × (Bor VSet × Unit {0})) (r : Ordering) (f' : F) → Called g f a r f'
    → (r ≡ slice_cmp nat_cmp (members_below (has a.0.now.bits) 64) (members_below (has a.1.0.now.bits) 64)) × (f' ≡ f))
    → Pairwise AreOther old → IsPermutation old new → AllPairs IsBefore new
sorted_sets {g = g} {f = f} old new up h other moved = before_later new
    (up (λ s t. is_lt (slice_cmp nat_cmp (members_below (has s.bits) 64) (members_below (has t.bits) 64)))
    (ranks_by nat_list_cmp_total (λ s. members_below (has s.bits) 64))
    (always_returns_same g (λ a r. is_lt r ≡ is_lt (slice_cmp nat_cmp (members_below (has a.0.now.bits) 64) (members_below (has a.1.0.now.bits) 64))) f
    (λ a r f' k. (ap is_lt (h a r f' k).0, (h a r f' k).1))))
    (pairwise_permuted AreOther (λ s t o e. o (sym e)) old new other moved)
