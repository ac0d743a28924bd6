-- The listing of all minimal separators, or of some of them.
use Rattle.std.specs.Prelude.{ℕ, ◌≡◌, ◌≢◌, ◌≤◌, Bool, true, false, List, length, All}
use Rattle.std.specs.List.{AllPairs, Any}
use Rattle.std.specs.Ordering.{nat_cmp}
use Rattle.std.specs.Cmp.Lexicographic.{slice_cmp}
use Rattle.std.specs.declared.cmp.Ordering.TheVariants.{Less}
use Rattle.mixed_graph.specs.declared.sets.VSet.{VSet}
use Rattle.mixed_graph.specs.Vocabulary.{has, members_below}

-- the test is that of the set
abbrev pub IsTestOf : (ℕ → Bool) → VSet → Type 0
IsTestOf z s = (v : ℕ) → z v ≡ has s.bits v

-- the ascending list of the members of s is before that of t
abbrev pub IsBefore : VSet → VSet → Type 0
IsBefore s t = slice_cmp nat_cmp (members_below (has s.bits) 64) (members_below (has t.bits) 64) ≡ Less

-- the sets are sets of a kind, in ascending order and so each once: all of them, or `most` where there are more
pub record IsListingOf (P : (ℕ → Bool) → Type 0) (most : ℕ) (sets : List VSet) (more : Bool) : Type 0 where
  pub each : All (λ s. P (has s.bits)) sets
  pub sorted : AllPairs IsBefore sets
  pub few : length sets ≤ most
  pub all : more ≡ false → (z : ℕ → Bool) → P z → Any (IsTestOf z) sets
  pub full : more ≡ true → length sets ≡ most
  pub another : more ≡ true → (s : VSet) × P (has s.bits) × All (λ t. t.bits ≢ s.bits) sets
