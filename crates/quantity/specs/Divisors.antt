-- The greatest common divisor, by Euclid's steps.
use Rattle.std.specs.Prelude.{ℕ, zero, suc, ◌+◌, ◌*◌, ◌/◌, ◌%◌, true, false, ◌==◌}

-- a where b is 0, else that of b and a % b, in at most n steps
unfoldable pub euclid : ℕ → ℕ → ℕ → ℕ
euclid zero a b = a
euclid (suc n) a b = elim (b == 0) [ true ↦ a | false ↦ euclid n b (a % b) ]

-- the greatest common divisor: the second number falls with each step, so b + 1 steps are enough
unfoldable pub gcd_of : ℕ → ℕ → ℕ
gcd_of a b = euclid (b + 1) a b

-- the least common multiple
abbrev pub lcm_of : ℕ → ℕ → ℕ
lcm_of a b = a * b / gcd_of a b
