-- What is proved of differences beside the law of the trait.
use Rattle.std.specs.Prelude.{◌≤◌}
use Rattle.fractions.specs.Vocabulary.{Fraction, IsEqual, add}
use Rattle.differences.specs.Minus.{IsAtMost, minus}

-- what is left, and what was taken off, make up what there was
abbrev pub DifferenceIsUndone : Type 0
DifferenceIsUndone = (f g : Fraction) → 1 ≤ f.bottom → 1 ≤ g.bottom → IsAtMost g f → IsEqual (add (minus f g) g) f

-- equal fractions have equal differences
abbrev pub DifferencesAreEqual : Type 0
DifferencesAreEqual = (f f' g g' : Fraction) → IsEqual f f' → IsEqual g g' → IsEqual (minus f g) (minus f' g')

-- what is at most a fraction is at most each equal one, and so are fractions equal to it
abbrev pub EqualKeepsAtMost : Type 0
EqualKeepsAtMost = (f f' g g' : Fraction) → IsEqual f f' → IsEqual g g' → IsAtMost g f → IsAtMost g' f'
