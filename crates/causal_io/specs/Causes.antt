-- What a count of failures says of a call.
use Rattle.std.specs.Prelude.{ℕ, ◌+◌, ◌-◌, ◌^◌, ◌≤◌, min}

-- The count that follows. At the end of its type it stays.
abbrev pub risen : ℕ → ℕ
risen count = min (count + 1) (2 ^ 64 - 1)

-- The count rose. One that stands at the end of its type is taken as risen.
abbrev pub Rose : ℕ → ℕ → Type 0
Rose before now = risen before ≤ now
