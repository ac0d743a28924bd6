-- Values as bits, and parities over the members of a set.
use Rattle.std.specs.Prelude.{ℕ, Bool, ◌==◌, ◌&&◌}
use Rattle.finite_models.specs.Vocabulary.{odd_below}

-- value 1 is the bit true
abbrev pub bit : ℕ → Bool
bit x = x == 1

-- the parity of the bits h of the members of C that chose v
abbrev pub chosen : ℕ → (ℕ → Bool) → (ℕ → ℕ) → (ℕ → Bool) → ℕ → Bool
chosen n C choice h v = odd_below n (λ u. C u && (v == choice u && h u))
