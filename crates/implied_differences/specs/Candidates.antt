-- Which of two cells is the better one; words for the walk, inside this crate.
use Rattle.std.specs.Prelude.{ℕ, ◌≡◌, ◌<◌, ◌≤◌, ◌⊎◌}
use Rattle.implied_differences.specs.declared.candidates.Candidate.{Candidate}

-- further apart, or as far with a lower number
abbrev pub IsAhead : Candidate → Candidate → Type 0
IsAhead c d = (d.distance < c.distance) ⊎ ((c.distance ≡ d.distance) × (c.number < d.number))

-- not further apart, and where as far no lower number
pub record IsNotAhead (c d : Candidate) : Type 0 where
  pub distance : c.distance ≤ d.distance
  pub number : c.distance ≡ d.distance → d.number ≤ c.number

-- what is at most so far apart, with at least this number, isn't ahead
pub record IsOutOfReach (c : Candidate) (furthest least : ℕ) : Type 0 where
  pub distance : furthest ≤ c.distance
  pub number : least < c.number → furthest < c.distance
