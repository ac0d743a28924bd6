-- Parities of finitely many bits.
use Rattle.std.specs.Prelude.{ℕ, zero, suc, Bool, true, false, not}

-- exclusive or
abbrev pub differ : Bool → Bool → Bool
differ true b = not b
differ false b = b

-- whether an odd number of p 0 .. p (n - 1) hold
abbrev pub odd_below : ℕ → (ℕ → Bool) → Bool
odd_below zero p = false
odd_below (suc n) p = differ (odd_below n p) (p n)
