-- Fractions of natural numbers, kept as they come: nothing is reduced, and a bottom may be 0 where nothing says otherwise.
use Rattle.std.specs.Prelude.{ℕ, zero, suc, ◌+◌, ◌*◌, ◌≡◌, ◌≤◌}

-- top / bottom
pub record Fraction : Type 0 where
  pub top : ℕ
  pub bottom : ℕ

-- p / q
abbrev pub over : ℕ → ℕ → Fraction
over p q = record { top = p; bottom = q }

-- two fractions are one number: neither bottom is 0, and p / q is r / s where p * s is r * q
pub record IsEqual (f g : Fraction) : Type 0 where
  pub left_bottom : 1 ≤ f.bottom
  pub right_bottom : 1 ≤ g.bottom
  pub products : f.top * g.bottom ≡ g.top * f.bottom

-- the fraction is a number above 0
pub record IsPositive (f : Fraction) : Type 0 where
  pub top : 1 ≤ f.top
  pub bottom : 1 ≤ f.bottom

-- p / q + r / s = (p * s + r * q) / (q * s)
abbrev pub add : Fraction → Fraction → Fraction
add f g = over (f.top * g.bottom + g.top * f.bottom) (f.bottom * g.bottom)

-- p / q * r / s = (p * r) / (q * s)
abbrev pub mul : Fraction → Fraction → Fraction
mul f g = over (f.top * g.top) (f.bottom * g.bottom)

-- p / q divided by r / s = (p * s) / (q * r)
abbrev pub div : Fraction → Fraction → Fraction
div f g = over (f.top * g.bottom) (f.bottom * g.top)

-- f 0 + .. + f (k - 1)
abbrev pub add_below : ℕ → (ℕ → Fraction) → Fraction
add_below zero f = over 0 1
add_below (suc k) f = add (add_below k f) (f k)
