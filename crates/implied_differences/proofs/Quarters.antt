-- The two products at a cell are no further apart than a quarter of the square of the block's sum.
use Rattle.std.proofs.Common.{ℕ, zero, suc, ◌+◌, ◌*◌, ◌-◌, ◌/◌, ◌≡◌, ◌<◌, ◌≤◌, List, sym, ap, subst, inl, inr, ◌⊎◌, arith}
use Rattle.std.specs.Int.{abs_diff}
use Rattle.std.proofs.lemmas.Bool.{cases_eq}
use Rattle.std.proofs.lemmas.Nat.{mul-le}
use Rattle.count_table.specs.Vocabulary.{sum_below}
use Rattle.implied_differences.specs.declared.layout.Layout.{Layout}
use Rattle.implied_differences.specs.Blocks.{value_at, row_at, column_at, block_at}
use Rattle.implied_differences.proofs.BlockSums.{term-most, sum-most}

-- a product of two is at most a quarter of the square of their sum
product_ordered : (x d : ℕ) → 4 * (x * (x + d)) ≤ (x + (x + d)) * (x + (x + d))
product_ordered x d = let e : (x + (x + d)) * (x + (x + d)) ≡ 4 * (x * (x + d)) + d * d = grind arith in omega (arith, e)

product_quarter : (x y : ℕ) → 4 * (x * y) ≤ (x + y) * (x + y)
product_quarter x y = elim (either x y) [
  | inl le ↦ subst (λ z. 4 * (x * z) ≤ (x + z) * (x + z)) (back x y le) (product_ordered x (y - x))
  | inr le ↦
      let e : y * x ≡ x * y = grind arith in
      let f : (y + x) * (y + x) ≡ (x + y) * (x + y) = grind arith in
      let h : 4 * (y * x) ≤ (y + x) * (y + x) = subst (λ z. 4 * (y * z) ≤ (y + z) * (y + z)) (back y x le) (product_ordered y (x - y)) in
      omega (arith, e, f, h)
]
  where
    either : (m n : ℕ) → (m ≤ n) ⊎ (n ≤ m)
    either m n = grind arith

    back : (m n : ℕ) → m ≤ n → m + (n - m) ≡ n
    back m n le = omega arith

apart : (k x y s : ℕ) → 4 * x ≤ s → 4 * y ≤ s → 4 * abs_diff (k + x) (k + y) ≤ s
apart k x y s p q = omega (arith, p, q)

-- four parts of a sum: n is the cell, a and b the rest of its row and column, m what is in neither
parts : (n a b m : ℕ) → 4 * abs_diff (n * (n + a + b + m)) ((n + a) * (n + b)) ≤ (n + a + b + m) * (n + a + b + m)
parts n a b m =
    let e : n * (n + a + b + m) ≡ (n * n + n * a + n * b) + n * m = grind arith in
    let f : (n + a) * (n + b) ≡ (n * n + n * a + n * b) + a * b = grind arith in
    let p = product_quarter n m in
    let q = product_quarter a b in
    let g : (n + m) * (n + m) ≤ (n + a + b + m) * (n + a + b + m) = mul-le (n + m) (n + m) (n + a + b + m) (n + a + b + m) (omega arith) (omega arith) in
    let h : (a + b) * (a + b) ≤ (n + a + b + m) * (n + a + b + m) = mul-le (a + b) (a + b) (n + a + b + m) (n + a + b + m) (omega arith) (omega arith) in
    subst (λ x. 4 * abs_diff x ((n + a) * (n + b)) ≤ (n + a + b + m) * (n + a + b + m)) (sym e)
    (subst (λ y. 4 * abs_diff ((n * n + n * a + n * b) + n * m) y ≤ (n + a + b + m) * (n + a + b + m)) (sym f)
    (apart (n * n + n * a + n * b) (n * m) (a * b) ((n + a + b + m) * (n + a + b + m)) (omega (arith, p, g)) (omega (arith, q, h))))

pub quarter : (n r c s : ℕ) → n ≤ r → n ≤ c → r + c ≤ s + n → 4 * abs_diff (n * s) (r * c) ≤ s * s
quarter n r c s p q h =
    let a = r - n in
    let b = c - n in
    let m = s - (n + a + b) in
    let e : n + a + b + m ≡ s = omega (arith, p, q, h) in
    let f : n + a ≡ r = omega (arith, p) in
    let g : n + b ≡ c = omega (arith, q) in
    subst (λ x. 4 * abs_diff (n * x) (r * c) ≤ x * x) e
    (subst (λ x. 4 * abs_diff (n * (n + a + b + m)) (x * c) ≤ (n + a + b + m) * (n + a + b + m)) f
    (subst (λ x. 4 * abs_diff (n * (n + a + b + m)) ((n + a) * x) ≤ (n + a + b + m) * (n + a + b + m)) g (parts n a b m)))

-- one larger term makes a larger sum
sum-gap : (n : ℕ) (f g : ℕ → ℕ) (k : ℕ) → ((j : ℕ) → j < n → g j ≤ f j) → k < n → sum_below n g + f k ≤ sum_below n f + g k
sum-gap zero f g k h lt = absurd (omega arith)
sum-gap (suc n) f g k h lt = elim (cases_eq k n) [
  | inl e ↦ (
      let rest = sum-most n g f (λ j less. h j (omega arith)) in
      let x = ap f e in
      let y = ap g e in
      omega (arith, rest, x, y)
      )
  | inr ne ↦ (
      let ih = sum-gap n f g k (λ j less. h j (omega arith)) (omega (arith, ne)) in
      let last = h n (omega arith) in
      omega (arith, ih, last)
      )
]

module _ (cells : List ℕ) (l : Layout) (begin x y : ℕ) (lx : x < l.firsts) (ly : y < l.seconds) where
  value-column : (z : ℕ) → value_at cells l begin x z ≤ column_at cells l begin z
  value-column z = term-most l.firsts (λ k. value_at cells l begin k z) x lx

  pub gap_quarter : 4 * abs_diff (value_at cells l begin x y * block_at cells l begin) (row_at cells l begin x * column_at cells l begin y)
      ≤ block_at cells l begin * block_at cells l begin
  gap_quarter = quarter (value_at cells l begin x y) (row_at cells l begin x) (column_at cells l begin y) (block_at cells l begin)
      (term-most l.seconds (λ z. value_at cells l begin x z) y ly)
      (value-column y)
      (sum-gap l.seconds (λ z. column_at cells l begin z) (λ z. value_at cells l begin x z) y (λ z _. value-column z) ly)

-- so where the sum is at most this
pub gap_most : (s most gap : ℕ) → 4 * gap ≤ s * s → s ≤ most → gap ≤ most * most / 4
gap_most s most gap h le = let e : s * s ≤ most * most = mul-le s s most most le le in omega (arith, h, e)
