-- The laws of fractions. Sums and products are associative and commutative as pairs of numbers, so reordering them needs no equality of fractions.
use Rattle.std.specs.Prelude.{ℕ, ◌*◌, ◌≡◌, ◌≤◌, ◌<◌}
use Rattle.fractions.specs.Fractions.{Fraction, over, IsEqual, IsPositive, add, mul, div, add_below}

-- a fraction that isn't over 0 is equal to itself
abbrev pub EqualIsReflexive : Type 0
EqualIsReflexive = (f : Fraction) → 1 ≤ f.bottom → IsEqual f f

-- equality holds in either direction
abbrev pub EqualIsSymmetric : Type 0
EqualIsSymmetric = (f g : Fraction) → IsEqual f g → IsEqual g f

-- what is equal to an equal fraction is equal
abbrev pub EqualIsTransitive : Type 0
EqualIsTransitive = (f g h : Fraction) → IsEqual f g → IsEqual g h → IsEqual f h

-- what is over 0 is equal to nothing, not even to itself
abbrev pub NothingEqualsOverZero : Type 0
NothingEqualsOverZero = (p : ℕ) (f : Fraction) → IsEqual (over p 0) f → ⊥

-- two whole numbers are equal fractions only where they are one
abbrev pub EqualWholesAreOne : Type 0
EqualWholesAreOne = (p q : ℕ) → IsEqual (over p 1) (over q 1) → p ≡ q

-- k * p / (k * q) is p / q
abbrev pub ScaledIsEqual : Type 0
ScaledIsEqual = (k p q : ℕ) → 1 ≤ k → 1 ≤ q → IsEqual (over (k * p) (k * q)) (over p q)

-- equal parts have equal sums
abbrev pub SumsAreEqual : Type 0
SumsAreEqual = (f f' g g' : Fraction) → IsEqual f f' → IsEqual g g' → IsEqual (add f g) (add f' g')

-- equal terms have equal sums, however many there are
abbrev pub LongSumsAreEqual : Type 0
LongSumsAreEqual = (k : ℕ) (f g : ℕ → Fraction) → ((i : ℕ) → i < k → IsEqual (f i) (g i)) → IsEqual (add_below k f) (add_below k g)

-- equal factors have equal products
abbrev pub ProductsAreEqual : Type 0
ProductsAreEqual = (f f' g g' : Fraction) → IsEqual f f' → IsEqual g g' → IsEqual (mul f g) (mul f' g')

-- equal fractions, divided by equal ones that aren't 0, are equal
abbrev pub QuotientsAreEqual : Type 0
QuotientsAreEqual = (f f' g g' : Fraction) → 1 ≤ g.top → IsEqual f f' → IsEqual g g' → IsEqual (div f g) (div f' g')

-- f + g is g + f, as a pair of numbers
abbrev pub AddIsCommutative : Type 0
AddIsCommutative = (f g : Fraction) → add f g ≡ add g f

-- f + (g + h) is (f + g) + h, as a pair of numbers
abbrev pub AddIsAssociative : Type 0
AddIsAssociative = (f g h : Fraction) → add f (add g h) ≡ add (add f g) h

-- f + 0 / 1 is f, as a pair of numbers
abbrev pub AddZero : Type 0
AddZero = (f : Fraction) → add f (over 0 1) ≡ f

-- f * g is g * f, as a pair of numbers
abbrev pub MulIsCommutative : Type 0
MulIsCommutative = (f g : Fraction) → mul f g ≡ mul g f

-- f * (g * h) is (f * g) * h, as a pair of numbers
abbrev pub MulIsAssociative : Type 0
MulIsAssociative = (f g h : Fraction) → mul f (mul g h) ≡ mul (mul f g) h

-- f * 1 / 1 is f, as a pair of numbers
abbrev pub MulOne : Type 0
MulOne = (f : Fraction) → mul f (over 1 1) ≡ f

-- f * (g + h) is f * g + f * h
abbrev pub MulDistributes : Type 0
MulDistributes = (f g h : Fraction) → 1 ≤ f.bottom → 1 ≤ g.bottom → 1 ≤ h.bottom → IsEqual (mul f (add g h)) (add (mul f g) (mul f h))

-- a quotient times its divisor is what was divided
abbrev pub QuotientIsUndone : Type 0
QuotientIsUndone = (f g : Fraction) → 1 ≤ f.bottom → IsPositive g → IsEqual (mul (div f g) g) f
