-- Sets of names, as the code makes them.
use Rattle.std.proofs.Common.{ℕ, ◌^◌, ◌≡◌, ◌<◌, ◌≤◌, Bool, true, false, not, refl, sym, ap, ◌∙◌, subst, ◌||◌, ◌&&◌, ◌==◌, arith, nat_lt, List, [], ◌∷◌, length}
use Rattle.std.proofs.Common.{◌⊎◌, inl, inr}
use Rattle.std.specs.List.{list_any}
use Rattle.std.proofs.lemmas.Bool.{eqb-true, eq-eqb, or_cases}
use Rattle.mixed_graph.specs.Vocabulary.{has, members_below}
use Rattle.mixed_graph.proofs.Masks.{below_64}
use Rattle.mixed_graph.proofs.MemberLists.{AreMembers, members-are, some-member, member-some}
use Rattle.latent_projection.proofs.Numbering.{length-members-cut}
use Rattle.treated_models.specs.Vocabulary.{prime_of}
use Rattle.treated_id.specs.Terms.{name_of, AreNames}

-- the members of x below v
pub counted : (x v s : ℕ) → v ≤ 64 → ((u : ℕ) → has s u ≡ (has x u && nat_lt u v)) → length (members_below (has s) 64) ≡ length (members_below (has x) v)
counted x v s le is = length-members-cut (has x) (has s) v 64 le (λ u. is u ∙ turned (has x u) (nat_lt u v))
  where
    turned : (p q : Bool) → (p && q) ≡ (q && p)
    turned p q = grind arith

-- ---- primed names, one after the other
abbrev pub in_primes : (n x : ℕ) → List ℕ → ℕ → Bool
in_primes n x vs k = list_any (λ v. k == prime_of n x v) vs

-- the names that are there, with those of the members that are left, are all
pub record Priming (n x set : ℕ) (left : List ℕ) (all : ℕ) : Type 0 where
  pub are : AreMembers (has set) 64 left
  pub whole : (k : ℕ) → (has all k || in_primes n x left k) ≡ in_primes n x (members_below (has set) 64) k

pub priming_none : (n x set : ℕ) (left : List ℕ) (all : ℕ) → left ≡ members_below (has set) 64 → ((k : ℕ) → has all k ≡ false) → Priming n x set left all
priming_none n x set left all whole none = record {
  are = subst (AreMembers (has set) 64) (sym whole) (members-are (has set) 64);
  whole = λ k. ap (λ b. b || in_primes n x left k) (none k) ∙ ap (λ vs. in_primes n x vs k) whole;
}

pub priming_more : (n x set v : ℕ) (left rest : List ℕ) (all all' : ℕ) → left ≡ v ∷ rest → ((k : ℕ) → has all' k ≡ (has all k || (k == prime_of n x v)))
    → Priming n x set left all → Priming n x set rest all'
priming_more n x set v left rest all all' first more p = record {
  are = (subst (AreMembers (has set) 64) first p.are).3;
  whole = λ k. ap (λ b. b || in_primes n x rest k) (more k) ∙ moved (has all k) (k == prime_of n x v) (in_primes n x rest k)
      ∙ ap (λ vs. has all k || in_primes n x vs k) (sym first) ∙ p.whole k;
}
  where
    moved : (a b c : Bool) → ((a || b) || c) ≡ (a || (b || c))
    moved a b c = grind arith

pub primed_all : (n x set all : ℕ) (left : List ℕ) → left ≡ [] → Priming n x set left all → (k : ℕ) → has all k ≡ in_primes n x (members_below (has set) 64) k
primed_all n x set all left none p k = plain (has all k) ∙ sym (ap (λ vs. has all k || in_primes n x vs k) none) ∙ p.whole k
  where
    plain : (b : Bool) → b ≡ (b || false)
    plain true = refl
    plain false = refl

pub primed_are : (n x set all : ℕ) → set < 2 ^ 64 → ((k : ℕ) → has all k ≡ in_primes n x (members_below (has set) 64) k) → (k : ℕ)
    → (has all k ≡ true → (u : ℕ) × (has set u ≡ true) × (k ≡ prime_of n x u)) × (((u : ℕ) × (has set u ≡ true) × (k ≡ prime_of n x u)) → has all k ≡ true)
primed_are n x set all fits is k = (
  λ i. let s = some-member (has set) (λ v. k == prime_of n x v) 64 (sym (is k) ∙ i) in (s.0, s.1, eqb-true k (prime_of n x s.0) s.2),
  λ s. is k ∙ member-some (has set) (λ v. k == prime_of n x v) 64 s.0 (below_64 set s.0 fits s.1) s.1 (eq-eqb k (prime_of n x s.0) s.2),
)

-- ---- all names
pub names_are : (n x seen set observed own primes names : ℕ) → ((u : ℕ) → has observed u ≡ ((has set u && has x u) && has seen u))
    → ((u : ℕ) → has own u ≡ (has set u && not (has observed u)))
    → ((k : ℕ) → (has primes k ≡ true → (u : ℕ) × (has observed u ≡ true) × (k ≡ prime_of n x u))
    × (((u : ℕ) × (has observed u ≡ true) × (k ≡ prime_of n x u)) → has primes k ≡ true))
    → ((k : ℕ) → has names k ≡ (has own k || has primes k)) → AreNames n x seen set names
names_are n x seen set observed own primes names are_observed are_own are_primes is = record {
  sound = λ k i. sound k (or_cases (has own k) (has primes k) (sym (is k) ∙ i));
  complete = λ k s. complete k s.0 s.1 s.2 (has x s.0 && has seen s.0) refl;
}
  where
    first : (s x n : Bool) → ((s && x) && n) ≡ true → (s ≡ true) × ((x && n) ≡ true)
    first s x n h = (grind (arith, h), grind (arith, h))

    apart : (s x n : Bool) → (s && not ((s && x) && n)) ≡ true → (s ≡ true) × ((x && n) ≡ false)
    apart s x n h = (grind (arith, h), grind (arith, h))

    none : (s x n : Bool) → s ≡ true → (x && n) ≡ false → (s && not ((s && x) && n)) ≡ true
    none s x n h k = grind (arith, h, k)

    some : (s x n : Bool) → s ≡ true → (x && n) ≡ true → ((s && x) && n) ≡ true
    some s x n h k = grind (arith, h, k)

    own_is : (u : ℕ) → has own u ≡ (has set u && not ((has set u && has x u) && has seen u))
    own_is u = are_own u ∙ ap (λ b. has set u && not b) (are_observed u)

    left : (p q : Bool) → p ≡ true → (p || q) ≡ true
    left p q h = grind (arith, h)

    right : (p q : Bool) → q ≡ true → (p || q) ≡ true
    right p q h = grind (arith, h)

    sound : (k : ℕ) → (has own k ≡ true) ⊎ (has primes k ≡ true) → (u : ℕ) × (has set u ≡ true) × (k ≡ name_of n x seen u)
    sound k (inl i) = let q = apart (has set k) (has x k) (has seen k) (sym (own_is k) ∙ i) in let b = q.1 in (k, q.0, rw b refl)
    sound k (inr i) =
        let s = (are_primes k).0 i in
        let q = first (has set s.0) (has x s.0) (has seen s.0) (sym (are_observed s.0) ∙ s.1) in
        let b = q.1 in
        (s.0, q.0, rw b s.2)

    complete : (k u : ℕ) → has set u ≡ true → k ≡ name_of n x seen u → (b : Bool) → (has x u && has seen u) ≡ b → has names k ≡ true
    complete k u i e true b =
        let p : k ≡ prime_of n x u = rw b at e in
        is k ∙ right (has own k) (has primes k) ((are_primes k).1 (u, are_observed u ∙ some (has set u) (has x u) (has seen u) i b, p))
    complete k u i e false b =
        let p : k ≡ u = rw b at e in
        ap (has names) p ∙ is u ∙ left (has own u) (has primes u) (own_is u ∙ none (has set u) (has x u) (has seen u) i b)
