-- What is proved of the definitions beside the law of the trait.
use Rattle.std.specs.Prelude.{ℕ, ◌≡◌, ◌<◌, ◌≤◌, ◌^◌, length}
use Rattle.std.specs.Int.{IsGcd, ◌∣◌}
use Rattle.quantity.specs.Divisors.{gcd_of, lcm_of}
use Rattle.quantity.specs.Intervals.{bounds, Encloses}
use Rattle.quantity.specs.Lawful.{Keeps}
use Rattle.quantity.specs.Texts.{eighteen_digits}

-- the number that Euclid's steps give is the greatest common divisor
abbrev pub EuclidIsGreatest : Type 0
EuclidIsGreatest = (a b : ℕ) → IsGcd a b (gcd_of a b)

-- a and b divide m, and m divides each number that both divide
pub record IsLcm (a b m : ℕ) : Type 0 where
  pub left : a ∣ m
  pub right : b ∣ m
  pub least : (n : ℕ) → a ∣ n → b ∣ n → m ∣ n

-- the product over the greatest common divisor is the least common multiple
abbrev pub MultipleIsLeast : Type 0
MultipleIsLeast = (a b : ℕ) → 1 ≤ a → 1 ≤ b → IsLcm a b (lcm_of a b)

-- in lowest terms 0 is 0 / 1
abbrev pub ZeroIsOverOne : Type 0
ZeroIsOverOne = (q : ℕ) → gcd_of 0 q ≡ 1 → q ≡ 1

-- bounds that enclose two fractions give bounds that enclose their sum, product and quotient, whatever is known of zeros
abbrev pub BoundsEnclose : Type 0
BoundsEnclose = Keeps bounds Encloses

-- the fraction part of a bound has 18 digits
abbrev pub FractionsHaveEighteenDigits : Type 0
FractionsHaveEighteenDigits = (n : ℕ) → n < 10 ^ 18 → length (eighteen_digits n) ≡ 18
