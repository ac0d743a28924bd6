-- That the sets of lists without fault are pairwise disjoint, and have members.
use Rattle.std.proofs.Common.{◌≡◌, ◌<◌, arith, ℕ, Bool, true, false, ◌&&◌, ◌||◌, List, [], ◌∷◌, ◌++◌, length, None, refl, sym, ap, ◌∙◌, inl, inr}
use Rattle.std.specs.Prelude.{nat_lt}
use Rattle.std.specs.Str.{bytes_eq}
use Rattle.std.proofs.lemmas.Bool.{cases_Bool}
use Rattle.std.proofs.lemmas.Slice.Eq.{bytes_eq-Decides}
use Rattle.mixed_graph.specs.Vocabulary.{has, Apart, is_named, index_of, name_of}
use Rattle.mixed_graph.proofs.Masks.{has-zero}
use Rattle.targets.specs.Targets.{name_fault, first_fault, IsListedSet, RuleLists, rule_fault, AreRuleSets}
use Rattle.targets.proofs.Walking.{no_fault}
use Rattle.targets.proofs.Queries.{set_test, neither, behind}

-- a name of a list without fault wasn't walked before
pub not_walked : (all observed : List (List ℕ)) (walked : List ℕ → Bool) (list : List (List ℕ)) → first_fault all observed walked list ≡ None →
    (m : List ℕ) → is_named list m ≡ true → walked m ≡ false
not_walked all observed walked [] clear m h = absurd (cc)
not_walked all observed walked (n ∷ ns) clear m h =
    let parts = neither (name_fault all observed walked n) (first_fault all observed (λ k. walked k || bytes_eq k n) ns) clear in
    go (bytes_eq m n) refl h (no_fault all observed walked n parts.0).1 (not_walked all observed (λ k. walked k || bytes_eq k n) ns parts.1 m)
  where
    front : (a b : Bool) → (a || b) ≡ false → a ≡ false
    front true b e = e
    front false b e = refl

    go : (b : Bool) → bytes_eq m n ≡ b → (b || is_named ns m) ≡ true → walked n ≡ false → (is_named ns m ≡ true → (walked m || bytes_eq m n) ≡ false)
        → walked m ≡ false
    go true e here clean later = ap walked ((bytes_eq-Decides m n).0 e) ∙ clean
    go false e here clean later = front (walked m) (bytes_eq m n) (later here)

-- sets of lists of which no name stands in both are disjoint
pub sets_apart : (observed a b : List (List ℕ)) (s t : ℕ) → IsListedSet observed a s → IsListedSet observed b t →
    ((m : List ℕ) → is_named b m ≡ true → is_named a m ≡ false) → Apart (has s) (has t)
sets_apart observed a b s t is_s is_t distinct v hs =
    is_t v ∙ go (nat_lt v (length observed)) (is_named a (name_of observed v)) (is_named b (name_of observed v)) (sym (is_s v) ∙ hs)
    (distinct (name_of observed v))
  where
    go : (p q r : Bool) → (p && q) ≡ true → (r ≡ true → q ≡ false) → (p && r) ≡ false
    go true q false e d = refl
    go true q true e d = absurd (let n = d refl in cc)
    go false q r e d = refl

-- the sets of a rule are pairwise disjoint
pub record ArePairwiseApart (y x z given : ℕ) : Type 0 where
  pub x_y : Apart (has x) (has y)
  pub x_z : Apart (has x) (has z)
  pub x_given : Apart (has x) (has given)
  pub y_z : Apart (has y) (has z)
  pub y_given : Apart (has y) (has given)
  pub z_given : Apart (has z) (has given)

swap : (p q : ℕ → Bool) → Apart p q → Apart q p
swap p q a v h = elim (cases_Bool (p v)) [ inl t ↦ absurd (let f = a v t in cc) | inr f ↦ f ]

three : (a b c : Bool) → ((a || b) || c) ≡ false → (a ≡ false) × (b ≡ false) × (c ≡ false)
three false false c e = (refl, refl, e)
three false true c e = absurd (cc)
three true b c e = absurd (cc)

two : (a b : Bool) → (a || b) ≡ false → (a ≡ false) × (b ≡ false)
two false b e = (refl, e)
two true b e = absurd (cc)

-- the sets of four lists without fault
pub pairwise_apart : (l : RuleLists) (y x z given : ℕ) → rule_fault l ≡ None → IsListedSet l.observed l.y y → IsListedSet l.observed l.x x
    → IsListedSet l.observed l.z z → IsListedSet l.observed l.given given
    → ArePairwiseApart y x z given
pairwise_apart l y x z given clear set_y set_x set_z set_given =
    let first = behind l.all l.observed (λ n. false) l.y (l.x ++ (l.z ++ l.given)) clear in
    let second = behind l.all l.observed (λ m. is_named l.y m) l.x (l.z ++ l.given) first.1 in
    let third = behind l.all l.observed (λ m. is_named l.y m || is_named l.x m) l.z l.given second.1 in
    let in_x = not_walked l.all l.observed (λ m. is_named l.y m) l.x second.0 in
    let in_z : (m : List ℕ) → is_named l.z m ≡ true → (is_named l.y m ≡ false) × (is_named l.x m ≡ false) =
    λ m h. two (is_named l.y m) (is_named l.x m) (not_walked l.all l.observed (λ k. is_named l.y k || is_named l.x k) l.z third.0 m h) in
    let in_given : (m : List ℕ) → is_named l.given m ≡ true → (is_named l.y m ≡ false) × (is_named l.x m ≡ false) × (is_named l.z m ≡ false) =
    λ m h. three (is_named l.y m) (is_named l.x m) (is_named l.z m)
    (not_walked l.all l.observed (λ k. (is_named l.y k || is_named l.x k) || is_named l.z k) l.given third.1 m h) in record {
      x_y = swap (has y) (has x) (sets_apart l.observed l.y l.x y x set_y set_x in_x);
      x_z = sets_apart l.observed l.x l.z x z set_x set_z (λ m h. (in_z m h).1);
      x_given = sets_apart l.observed l.x l.given x given set_x set_given (λ m h. (in_given m h).1);
      y_z = sets_apart l.observed l.y l.z y z set_y set_z (λ m h. (in_z m h).0);
      y_given = sets_apart l.observed l.y l.given y given set_y set_given (λ m h. (in_given m h).0);
      z_given = sets_apart l.observed l.z l.given z given set_z set_given (λ m h. (in_given m h).2);
    }

-- the set of a list that isn't empty has a member
pub some_in : (all observed : List (List ℕ)) (walked : List ℕ → Bool) (list : List (List ℕ)) (mask : ℕ) → first_fault all observed walked list ≡ None →
    (list ≡ [] → ⊥) → IsListedSet observed list mask → 0 < mask
some_in all observed walked [] mask clear some s = absurd (some refl)
some_in all observed walked (n ∷ ns) mask clear some s =
    let here = (no_fault all observed walked n (neither (name_fault all observed walked n) (first_fault all observed (λ k. walked k || bytes_eq k n) ns)
    clear).0).0 in
    let test = set_test observed (n ∷ ns) mask s n here in
    let same : bytes_eq n n ≡ true = (bytes_eq-Decides n n).1 refl in
    let member : has mask (index_of observed n) ≡ true = test ∙ ap (λ b. b || is_named ns n) same in
    let full : mask ≡ 0 → ⊥ = λ e. (let z = has-zero (index_of observed n) in let m : has 0 (index_of observed n) ≡ true =
    sym (ap (λ k. has k (index_of observed n)) e) ∙ member in cc) in
    omega arith

-- the set y of a rule has a member
pub some_outcome : (l : RuleLists) (y x z given : ℕ) → AreRuleSets l y x z given → 0 < y
some_outcome l y x z given s =
    some_in l.all l.observed (λ n. false) l.y y (behind l.all l.observed (λ n. false) l.y (l.x ++ (l.z ++ l.given)) s.no_fault).0 s.some_y s.set_y
