-- Differences of fractions.
use Rattle.std.specs.Prelude.{◌*◌, ◌-◌, ◌≤◌}
use Rattle.fractions.specs.Vocabulary.{Fraction, over}

-- p / q - r / s = (p * s - r * q) / (q * s), where r / s is at most p / q
abbrev pub minus : Fraction → Fraction → Fraction
minus f g = over (f.top * g.bottom - g.top * f.bottom) (f.bottom * g.bottom)

-- g is at most f
abbrev pub IsAtMost : (g f : Fraction) → Type 0
IsAtMost g f = g.top * f.bottom ≤ f.top * g.bottom
