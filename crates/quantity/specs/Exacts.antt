-- Exact fractions in lowest terms: the two numbers are top and bottom.
use Rattle.std.specs.Prelude.{ℕ, ◌+◌, ◌*◌, ◌/◌, ◌&&◌, if◌then◌else◌, nat_le, ◌==◌, Result, Ok, Err}
use Rattle.quantity.specs.declared.fault.QuantityFault.{QuantityFault}
use Rattle.quantity.specs.declared.fault.QuantityFault.TheVariants.{TooWide, ZeroBelow}
use Rattle.fractions.specs.Vocabulary.{Fraction, over, IsEqual}
use Rattle.quantity.specs.Divisors.{gcd_of, lcm_of}
use Rattle.quantity.specs.Kinds.{Pair, pair, Kind, most}
use Rattle.quantity.specs.Texts.{ratio_text}

-- p / q in lowest terms
abbrev pub lowest : ℕ → ℕ → Pair
lowest p q = pair (p / gcd_of p q) (q / gcd_of p q)

-- p / q + r / s over the bottom l, then in lowest terms: too wide where l or the top over it is
abbrev pub sum_over_bottom : ℕ → ℕ → ℕ → ℕ → ℕ → Result Pair QuantityFault
sum_over_bottom l p q r s = let t = p * (l / q) + r * (l / s) in if nat_le l most && nat_le t most then Ok (lowest t l) else Err TooWide

-- p / q * r / s, where p and s are divided by a, and r and q by b: too wide where a product is
abbrev pub product_by : ℕ → ℕ → ℕ → ℕ → ℕ → ℕ → Result Pair QuantityFault
product_by a b p q r s =
    let top = (p / a) * (r / b) in let bottom = (q / b) * (s / a) in if nat_le top most && nat_le bottom most then Ok (pair top bottom) else Err TooWide

-- p / q * r / s, the tops and the opposite bottoms divided by their greatest common divisors
abbrev pub product_of : ℕ → ℕ → ℕ → ℕ → Result Pair QuantityFault
product_of p q r s = product_by (gcd_of p s) (gcd_of r q) p q r s

-- the sum over the least common multiple of the bottoms
abbrev pub exact_add : Pair → Pair → Result Pair QuantityFault
exact_add a b = sum_over_bottom (lcm_of a.second b.second) a.first a.second b.first b.second

-- the product in lowest terms
abbrev pub exact_mul : Pair → Pair → Result Pair QuantityFault
exact_mul a b = product_of a.first a.second b.first b.second

-- the product by the inverse, where the divisor is not 0
abbrev pub exact_div : Pair → Pair → Result Pair QuantityFault
exact_div a b = if b.first == 0 then Err ZeroBelow else product_of a.first a.second b.second b.first

-- exact fractions
abbrev pub exact : Kind
exact = record { from_ratio = lowest; add = exact_add; mul = exact_mul; div = exact_div; text = ratio_text }

-- the two numbers, top over bottom, are equal to the fraction
abbrev pub Equals : Pair → Fraction → Type 0
Equals n f = IsEqual (over n.first n.second) f
