-- The least common multiple.
use Rattle.std.proofs.Common.{ℕ, ◌*◌, ◌/◌, ◌≡◌, ◌≤◌, sym, ap, ◌∙◌, subst, arith}
use Rattle.std.proofs.Math.Nat.{dvd-mul_left, dvd-mul_right, mul-dvd-mul_left, mul-dvd-mul_right, dvd_of_mul-dvd-mul_right}
use Rattle.std.specs.Int.{◌∣◌}
use Rattle.quantity.specs.Divisors.{gcd_of, lcm_of}
use Rattle.quantity.specs.Theorems.{IsLcm}
use Rattle.quantity.specs.Laws.Gcd.{gcd_left, gcd_right, gcd_scaled, gcd_positive}
use Rattle.quantity.specs.Laws.Exact.{multiple_of}

-- over plain numbers: a is g * x, and b is g * y
multiple_is_least : (a b g x y l : ℕ) → 1 ≤ g → g * x ≡ a → g * y ≡ b → l ≡ x * b → ((d k : ℕ) → d ∣ k * a → d ∣ k * b → d ∣ k * g) → IsLcm a b l
multiple_is_least a b g x y l le ea eb el scaled = record {
  left = subst (λ m. a ∣ m) (ap (λ n. n * y) (sym ea) ∙ (let r : g * x * y ≡ x * (g * y) = omega arith in r) ∙ ap (λ n. x * n) eb ∙ sym el) (dvd-mul_right a y);
  right = subst (λ m. b ∣ m) (sym el) (dvd-mul_left b x);
  least = λ n p q. dvd_of_mul-dvd-mul_right l le (subst (λ m. m ∣ n * g) whole
      (scaled (a * b) n (subst (λ m. a * b ∣ m) (swap a n) (mul-dvd-mul_left b a q)) (mul-dvd-mul_right a p b)));
}
  where
    whole : a * b ≡ l * g
    whole = ap (λ n. n * b) (sym ea) ∙ (let r : g * x * b ≡ x * b * g = omega arith in r) ∙ ap (λ n. n * g) (sym el)

    swap : (a n : ℕ) → a * n ≡ n * a
    swap a n = omega arith

pub lcm_is : (a b : ℕ) → 1 ≤ a → 1 ≤ b → IsLcm a b (lcm_of a b)
lcm_is a b la lb =
    multiple_is_least a b (gcd_of a b) (a / gcd_of a b) (b / gcd_of a b) (lcm_of a b) (gcd_positive a b lb) (gcd_left a b) (gcd_right a b)
    (multiple_of a b la lb).bottom
    (λ d k p q. gcd_scaled a b d k p q)
