-- Differences of products, over plain numbers.
use Rattle.std.proofs.Common.{ℕ, ◌*◌, ◌-◌, ◌≡◌, ◌<◌, ◌≤◌, ap₂, ◌∙◌, arith, le_of_mul-le-mul_right}
use Rattle.std.proofs.Math.Nat.{mul-sub}

pub sub_times : (a b n : ℕ) → (a - b) * n ≡ a * n - b * n
sub_times a b n =
    (let r : (a - b) * n ≡ n * (a - b) = omega arith in r) ∙ mul-sub n a b
    ∙ ap₂ (λ x y. x - y) (let r : n * a ≡ a * n = omega arith in r) (let r : n * b ≡ b * n = omega arith in r)

-- what is left of less, where more is taken off, is less
pub sub_le : (a b c d : ℕ) → a ≤ c → d ≤ b → a - b ≤ c - d
sub_le a b c d h k = omega (arith, h, k)

pub scaled : (a b n : ℕ) → 1 ≤ n → a * n ≤ b * n → a ≤ b
scaled a b n le h = le_of_mul-le-mul_right h le

pub not_less : (a b : ℕ) → a < b → b ≤ a → ⊥
not_less a b h k = absurd (omega (arith, h, k))
