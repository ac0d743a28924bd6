-- Bounds in units of 10 ^ -18: the two numbers are the lower and the upper bound.
use Rattle.std.specs.Prelude.{ℕ, ◌+◌, ◌*◌, ◌/◌, ◌-◌, ◌^◌, ◌≡◌, ◌≤◌, ◌↔◌, if◌then◌else◌, nat_le, ◌==◌, Result, Ok, Err}
use Rattle.quantity.specs.declared.fault.QuantityFault.{QuantityFault}
use Rattle.quantity.specs.declared.fault.QuantityFault.TheVariants.{TooWide, TooFine, ZeroBelow}
use Rattle.fractions.specs.Vocabulary.{Fraction}
use Rattle.quantity.specs.Kinds.{Pair, pair, Kind, most}
use Rattle.quantity.specs.Texts.{bounds_text}

-- how many units are 1
abbrev pub unit : ℕ
unit = 10 ^ 18

-- a / b, rounded up
abbrev pub ceiling : ℕ → ℕ → ℕ
ceiling a b = (a + (b - 1)) / b

-- p / q, rounded down and up
abbrev pub bounds_ratio : ℕ → ℕ → Pair
bounds_ratio p q = pair (p * unit / q) (ceiling (p * unit) q)

-- too wide where the upper bound is
abbrev pub bounds_add : Pair → Pair → Result Pair QuantityFault
bounds_add a b = if nat_le (a.second + b.second) most then Ok (pair (a.first + b.first) (a.second + b.second)) else Err TooWide

-- rounded down and up; too wide where the product of the upper bounds is
abbrev pub bounds_mul : Pair → Pair → Result Pair QuantityFault
bounds_mul a b =
    if nat_le (a.second * b.second) most then Ok (pair (a.first * b.first / unit) (ceiling (a.second * b.second) unit)) else Err TooWide

-- the divisor's upper bound is 0, or else its lower bound is 0, or else the upper bound is too wide in units, or else the quotient, rounded down and up
abbrev pub bounds_div : Pair → Pair → Result Pair QuantityFault
bounds_div a b =
    if b.second == 0 then Err ZeroBelow
    else (if b.first == 0 then Err TooFine
    else (if nat_le (a.second * unit) most then Ok (pair (a.first * unit / b.second) (ceiling (a.second * unit) b.first)) else Err TooWide))

-- bounds
abbrev pub bounds : Kind
bounds = record { from_ratio = bounds_ratio; add = bounds_add; mul = bounds_mul; div = bounds_div; text = bounds_text }

-- the fraction lies from the lower to the upper bound, and isn't over 0
pub record Encloses (n : Pair) (f : Fraction) : Type 0 where
  pub bottom : 1 ≤ f.bottom
  pub lower : n.first * f.bottom ≤ f.top * unit
  pub upper : f.top * unit ≤ n.second * f.bottom

-- the bounds enclose the fraction, and the upper one is 0 exactly where the fraction is 0
pub record Covers (n : Pair) (f : Fraction) : Type 0 where
  pub within : Encloses n f
  pub zero : (n.second ≡ 0) ↔ (f.top ≡ 0)
