-- Primed names: a second name for some vertices, behind the names of all (Pearl, Causality, chapter 7).
use Rattle.std.specs.Prelude.{ℕ, zero, suc, ◌≡◌, ◌<◌, ◌≤◌, ◌+◌, List, [], ◌∷◌, ◌++◌, length, get_or, nat_lt, if◌then◌else◌}
use Rattle.mixed_graph.specs.Vocabulary.{has, members_below, is_named, name_of}

-- a name, with primes behind it while it is one of those that are taken; so many may be added at most
abbrev pub primed_from : (most : ℕ) → (taken : List (List ℕ)) → List ℕ → List ℕ
primed_from zero taken name = name
primed_from (suc most) taken name = if is_named taken name then primed_from most taken (name ++ 39 ∷ []) else name

-- a name with as few primes behind it, one at least, as make it none of those that are taken
abbrev pub primed_name : (taken : List (List ℕ)) → List ℕ → List ℕ
primed_name taken name = primed_from (length taken) taken (name ++ 39 ∷ [])

-- names with a primed name behind them, where they are fewer than 64
abbrev pub with_prime : (taken : List (List ℕ)) → List ℕ → List (List ℕ)
with_prime taken name = if nat_lt (length taken) 64 then taken ++ primed_name taken name ∷ [] else taken

-- with the primed names of vertices behind them
abbrev pub with_primes : (names taken : List (List ℕ)) → List ℕ → List (List ℕ)
with_primes names taken [] = taken
with_primes names taken (v ∷ vs) = with_primes names (with_prime taken (name_of names v)) vs

-- the names, and behind them a primed name for each member of x, in ascending order
abbrev pub primed_names : List (List ℕ) → ℕ → List (List ℕ)
primed_names names x = with_primes names names (members_below (has x) 64)

-- a name with so many primes behind it
abbrev pub ticked : List ℕ → ℕ → List ℕ
ticked name zero = name
ticked name (suc k) = ticked (name ++ 39 ∷ []) k

-- the names stand at their places, and behind them that of each member of x, in ascending order, with one prime or more
pub record ArePrimed (names all : List (List ℕ)) (x : ℕ) : Type 0 where
  pub own : (v : ℕ) → v < length names → name_of all v ≡ name_of names v
  pub primed : (i : ℕ) → i < length (members_below (has x) 64)
      → (k : ℕ) × (0 < k) × (name_of all (length names + i) ≡ ticked (name_of names (get_or (members_below (has x) 64) i 0)) k)

-- where there is room for all, the primed names are so
abbrev pub PrimedStandBehind : Type 0
PrimedStandBehind = (names : List (List ℕ)) (x : ℕ) → length names + length (members_below (has x) 64) ≤ 64 → ArePrimed names (primed_names names x) x
