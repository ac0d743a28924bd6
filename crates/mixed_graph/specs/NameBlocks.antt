-- Names in one block of bytes, a line feed behind each, and where each ends.
use Rattle.std.specs.Prelude.{ℕ, zero, suc, ◌≡◌, ◌<◌, ◌≤◌, ◌+◌, ◌-◌, List, [], ◌∷◌, ◌++◌, length, take, drop, slice_index}

-- where name i begins: behind the line feed of the name before it
abbrev pub start_of : List ℕ → ℕ → ℕ
start_of ends zero = 0
start_of ends (suc i) = slice_index ends i + 1

-- the bytes from a place to another
abbrev pub part : List ℕ → ℕ → ℕ → List ℕ
part bytes a b = take (b - a) (drop a bytes)

-- the first names that stand in the block
abbrev pub cut : List ℕ → List ℕ → ℕ → List (List ℕ)
cut bytes ends zero = []
cut bytes ends (suc i) = cut bytes ends i ++ part bytes (start_of ends i) (slice_index ends i) ∷ []

-- so many names fill the block
pub record IsBlock (bytes ends : List ℕ) (count : ℕ) : Type 0 where
  pub few : count ≤ 64
  pub whole : start_of ends count ≡ length bytes
  pub inside : (i : ℕ) → i < count → (start_of ends i ≤ slice_index ends i) × (slice_index ends i < length bytes)
