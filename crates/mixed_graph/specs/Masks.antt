-- Sets of vertices as masks: the sets of plain trees. `has mask v` says whether v is a member.
use Rattle.std.specs.Prelude.{ℕ, ◌-◌, ◌^◌, Bool, ◌==◌, ltb, bit_and, bit_or, bit_xor}

-- the members of either
abbrev pub union : ℕ → ℕ → ℕ
union a b = bit_or a b

-- the members of both
abbrev pub common : ℕ → ℕ → ℕ
common a b = bit_and a b

-- the members of a outside b
abbrev pub minus : ℕ → ℕ → ℕ
minus a b = bit_xor a (bit_and a b)

-- the set of v alone
abbrev pub one : ℕ → ℕ
one v = 2 ^ v

-- all vertices below n
abbrev pub all : ℕ → ℕ
all n = 2 ^ n - 1

-- the set has no member
abbrev pub is_empty : ℕ → Bool
is_empty a = a == 0

-- no vertex is a member of both
abbrev pub is_apart : ℕ → ℕ → Bool
is_apart a b = bit_and a b == 0

-- each member of a is one of b
abbrev pub is_inside : ℕ → ℕ → Bool
is_inside a b = bit_and a b == a

-- each member is below n
abbrev pub is_below : ℕ → ℕ → Bool
is_below n a = ltb a (2 ^ n)
