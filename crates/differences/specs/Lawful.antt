-- What a subtraction has to do with fractions.
use Rattle.std.specs.Prelude.{◌≡◌, ◌≤◌, Some, None, Ok, Err}
use Rattle.fractions.specs.Vocabulary.{Fraction, IsEqual, div}
use Rattle.quantity.specs.declared.fault.QuantityFault.{QuantityFault}
use Rattle.quantity.specs.declared.fault.QuantityFault.TheVariants.{TooWide}
use Rattle.quantity.specs.Kinds.{Pair}
use Rattle.quantity.specs.Vocabulary.{Kind}
use Rattle.differences.specs.Kinds.{Subtraction}
use Rattle.differences.specs.Minus.{IsAtMost, minus}

-- What is left encloses the true difference; nothing is left only where more is taken off than there is; what encloses a fraction encloses each equal one,
-- and its quotients, which are had only where the divisor isn't 0. A difference encloses alone: of its bounds one doesn't know whether it is 0.
pub record IsLawfulDifference (kind : Kind) (less : Subtraction) (covers encloses : Pair → Fraction → Type 0) : Type 0 where
  pub difference : (a b c : Pair) (f g : Fraction) → covers a f → covers b g → IsAtMost g f → less a b ≡ Ok (Some c) → encloses c (minus f g)
  pub below : (a b : Pair) (f g : Fraction) → covers a f → covers b g → less a b ≡ Ok None → IsAtMost g f → ⊥
  pub div : (a b c : Pair) (f g : Fraction) → encloses a f → covers b g → kind.div a b ≡ Ok c → encloses c (div f g)
  pub divisor : (a b c : Pair) (g : Fraction) → covers b g → kind.div a b ≡ Ok c → 1 ≤ g.top
  pub weaker : (n : Pair) (f : Fraction) → covers n f → encloses n f
  pub equal : (n : Pair) (f g : Fraction) → encloses n f → IsEqual f g → encloses n g
  pub wide : (a b : Pair) (fault : QuantityFault) → less a b ≡ Err fault → fault ≡ TooWide
