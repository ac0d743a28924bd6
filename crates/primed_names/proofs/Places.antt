-- Where the primed names stand.
use Rattle.std.proofs.Common.{◌≡◌, ◌<◌, ◌≤◌, ◌+◌, ℕ, zero, suc, true, List, [], ◌∷◌, ◌++◌, length, get_or, nat_lt, refl, ap, ◌∙◌, subst, inl, inr}
use Rattle.std.proofs.Common.{arith, length-append}
use Rattle.std.proofs.Math.Seq.{get_or-append_seam}
use Rattle.std.proofs.lemmas.Bool.{cases_Bool}
use Rattle.std.proofs.lemmas.List.{get_or_append_left}
use Rattle.mixed_graph.specs.Vocabulary.{has, members_below, is_named, name_of}
use Rattle.primed_names.specs.Primed.{primed_from, primed_name, with_prime, with_primes, ticked, PrimedStandBehind}
use Rattle.primed_names.proofs.Fresh.{stays, goes_on, put_behind}

-- primes alone are added to a name
from_ticked : (most : ℕ) (taken : List (List ℕ)) (name : List ℕ) → (k : ℕ) × (primed_from most taken name ≡ ticked name k)
from_ticked zero taken name = (0, refl)
from_ticked (suc most) taken name = elim (cases_Bool (is_named taken name)) [
  | inl e ↦ let rest = from_ticked most taken (name ++ 39 ∷ []) in (suc rest.0, goes_on most taken name e ∙ rest.1)
  | inr e ↦ (0, stays (suc most) taken name e)
]

-- what holds of names with primed names of these vertices behind them
pub record StandBehind (names taken : List (List ℕ)) (vs : List ℕ) (all : List (List ℕ)) : Type 0 where
  pub own : (v : ℕ) → v < length taken → get_or all v [] ≡ get_or taken v []
  pub primed : (i : ℕ) → i < length vs → (k : ℕ) × (0 < k) × (get_or all (length taken + i) [] ≡ ticked (name_of names (get_or vs i 0)) k)

module _ (names : List (List ℕ)) where
  one_more : (v : ℕ) (vs : List ℕ) (taken all : List (List ℕ)) (p : List ℕ) → ((k : ℕ) × (0 < k) × (p ≡ ticked (name_of names v) k))
      → StandBehind names (taken ++ p ∷ []) vs all → StandBehind names taken (v ∷ vs) all
  one_more v vs taken all p is behind = record { own = own; primed = primed }
    where
      long : length (taken ++ p ∷ []) ≡ length taken + 1
      long = length-append taken (p ∷ [])

      own : (u : ℕ) → u < length taken → get_or all u [] ≡ get_or taken u []
      own u h = behind.own u (omega (arith, h, long)) ∙ get_or_append_left taken (p ∷ []) [] u h

      primed : (i : ℕ) → i < length (v ∷ vs) → (k : ℕ) × (0 < k) × (get_or all (length taken + i) [] ≡ ticked (name_of names (get_or (v ∷ vs) i 0)) k)
      primed zero h = (
        is.0,
        is.1,
        ap (λ n. get_or all n []) (let e : length taken + 0 ≡ length taken = omega arith in e)
            ∙ behind.own (length taken) (omega (arith, long)) ∙ get_or-append_seam taken p [] [] ∙ is.2,
      )
      primed (suc i) h =
          let next = behind.primed i (omega (arith, h)) in
          (next.0, next.1, ap (λ n. get_or all n []) (let e : length taken + suc i ≡ length (taken ++ p ∷ []) + i = omega (arith, long) in e) ∙ next.2)

  stand_behind : (vs : List ℕ) (taken : List (List ℕ)) → length taken + length vs ≤ 64 → StandBehind names taken vs (with_primes names taken vs)
  stand_behind [] taken h = record { own = λ v l. refl; primed = λ i l. absurd (omega (arith, l)) }
  stand_behind (v ∷ vs) taken h =
      let p = primed_name taken (name_of names v) in
      let few : nat_lt (length taken) 64 ≡ true = grind (arith, h) in
      let room : taken ++ p ∷ [] ≡ with_prime taken (name_of names v) = put_behind taken (name_of names v) p few refl in
      let long = length-append taken (p ∷ []) in
      let made = from_ticked (length taken) taken (name_of names v ++ 39 ∷ []) in
      one_more v vs taken (with_primes names (with_prime taken (name_of names v)) vs) p (suc made.0, omega arith, made.1)
      (subst (λ (t : List (List ℕ)). StandBehind names (taken ++ p ∷ []) vs (with_primes names t vs)) room
      (stand_behind vs (taken ++ p ∷ []) (omega (arith, h, long))))

pub primed_stand_behind : PrimedStandBehind
primed_stand_behind names x h = let all = stand_behind names (members_below (has x) 64) names h in record { own = all.own; primed = all.primed }
