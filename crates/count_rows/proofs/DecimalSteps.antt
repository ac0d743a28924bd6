-- Digits, read one by one.
use Rattle.std.proofs.Common.{ℕ, ◌≡◌, ◌+◌, ◌-◌, ◌*◌, ◌<◌, ◌≤◌, true, ◌&&◌, leb, List, [], ◌∷◌, ap, ap₂, arith, le_trans}
use Rattle.std.specs.List.{list_all}
use Rattle.count_rows.specs.Numbers.{is_digit, value_after, most_counted}

-- more digits give no less
pub value_after-le : (n : ℕ) (bs : List ℕ) → n ≤ value_after n bs
value_after-le n [] = omega arith
value_after-le n (b ∷ bs) = le_trans (let r : n ≤ 10 * n + (b - 48) = omega arith in r) (value_after-le (10 * n + (b - 48)) bs)

digit_true : (b : ℕ) → 48 ≤ b → b ≤ 57 → is_digit b ≡ true
digit_true b l h = let p : leb 48 b ≡ true = grind arith in let q : leb b 57 ≡ true = grind arith in ap₂ (λ x y. x && y) p q

pub digits_step : (b : ℕ) (rest : List ℕ) → 48 ≤ b → b ≤ 57 → list_all is_digit (b ∷ rest) ≡ list_all is_digit rest
digits_step b rest l h = ap (λ x. x && list_all is_digit rest) (digit_true b l h)

pub value_over : (v b : ℕ) (rest : List ℕ) (total : ℕ) → value_after v (b ∷ rest) ≡ total → most_counted < 10 * v + (b - 48) → most_counted < total
value_over v b rest total e lt = let r = value_after-le (10 * v + (b - 48)) rest in omega (arith, r, e)
