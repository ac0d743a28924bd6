-- The levels of a vertex.
use Rattle.std.specs.Prelude.{ℕ, ◌≢◌, ◌<◌, ◌^◌, List, length}
use Rattle.std.specs.List.{AllPairs}

-- what is true of the levels of a vertex: no two are equal, and each has a number of 32 bits
pub record AreLevels (levels : List (List ℕ)) : Type 0 where
  pub few : length levels < 2 ^ 32
  pub distinct : AllPairs (λ a b. a ≢ b) levels
