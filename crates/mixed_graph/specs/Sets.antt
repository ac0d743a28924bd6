-- Sets of vertices, as tests on numbers.
use Rattle.std.specs.Prelude.{◌≡◌, ℕ, ◌<◌, Bool, false, IsTrue}

-- each member of the set is below n
abbrev pub Within : ℕ → (ℕ → Bool) → Type 0
Within n s = (v : ℕ) → IsTrue (s v) → v < n

-- the two sets have no member in common
abbrev pub Apart : (ℕ → Bool) → (ℕ → Bool) → Type 0
Apart s t = (v : ℕ) → IsTrue (s v) → t v ≡ false
