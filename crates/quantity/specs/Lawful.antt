-- What the operations of a kind have to do with fractions.
use Rattle.std.specs.Prelude.{ℕ, ◌≡◌, ◌≢◌, ◌≤◌, ◌↔◌, Ok, Err}
use Rattle.fractions.specs.Fractions
use Rattle.fractions.specs.Vocabulary.{Fraction, over, IsEqual}
use Rattle.quantity.specs.declared.fault.QuantityFault.TheVariants.{ZeroBelow}
use Rattle.quantity.specs.Kinds.{Pair, Kind}

-- the numbers of a ratio hold it, the numbers of a sum, product or quotient hold the sum, product or quotient of what the operands hold, and what
-- holds a fraction holds each equal one
pub record Keeps (kind : Kind) (holds : Pair → Fraction → Type 0) : Type 0 where
  pub ratio : (p q : ℕ) → 1 ≤ q → holds (kind.from_ratio p q) (over p q)
  pub add : (a b c : Pair) (f g : Fraction) → holds a f → holds b g → kind.add a b ≡ Ok c → holds c (Fractions.add f g)
  pub mul : (a b c : Pair) (f g : Fraction) → holds a f → holds b g → kind.mul a b ≡ Ok c → holds c (Fractions.mul f g)
  pub div : (a b c : Pair) (f g : Fraction) → holds a f → holds b g → kind.div a b ≡ Ok c → holds c (Fractions.div f g)
  pub equal : (n : Pair) (f g : Fraction) → holds n f → IsEqual f g → holds n g

-- each result covers the true fraction, none of which is over 0; a quotient has a zero below exactly where the divisor is 0, and sums and products never have
pub record IsLawful (kind : Kind) (covers : Pair → Fraction → Type 0) : Type 0 where
  pub keeps : Keeps kind covers
  pub bottom : (n : Pair) (f : Fraction) → covers n f → 1 ≤ f.bottom
  pub div_zero : (a b : Pair) (f g : Fraction) → covers a f → covers b g → (kind.div a b ≡ Err ZeroBelow) ↔ (g.top ≡ 0)
  pub add_never : (a b : Pair) → kind.add a b ≢ Err ZeroBelow
  pub mul_never : (a b : Pair) → kind.mul a b ≢ Err ZeroBelow
