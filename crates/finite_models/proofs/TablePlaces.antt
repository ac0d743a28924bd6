-- The place of an output, one digit after another.
use Rattle.std.proofs.Common.{ℕ, zero, suc, ◌+◌, ◌*◌, ◌≡◌, ◌<◌, ◌≤◌, Bool, true, false, cond, inl, inr, refl, arith}
use Rattle.std.proofs.lemmas.Bool.{cases_lt}
use Rattle.finite_models.specs.Tables.{radix, radix_range}
use Rattle.finite_models.proofs.TableLaws.{radix-lt}

-- with positive bases the range grows with the number of digits
radix_range-grows : (n : ℕ) (p : ℕ → Bool) (b : ℕ → ℕ) (k : ℕ) → k ≤ n → ((i : ℕ) → i < n → 0 < b i) → radix_range k p b ≤ radix_range n p b
radix_range-grows zero p b k le h = let e : k ≡ 0 = omega arith in rw e (omega arith)
radix_range-grows (suc n) p b k le h = elim (cases_lt n k) [
  | inl l ↦ let e : k ≡ suc n = omega arith in rw e (omega arith)
  | inr g ↦ longer (p n) (radix_range k p b) (radix_range n p b) (b n) (radix_range-grows n p b k g (λ i lt. h i (omega arith))) (h n (omega arith))
]
  where
    longer : (c : Bool) (x y z : ℕ) → x ≤ y → 0 < z → x ≤ cond c (y * z) y
    longer true x y zero q r = absurd (omega arith)
    longer true x y (suc z) q r = let e : y * suc z ≡ y * z + y = omega arith in omega arith
    longer false x y z q r = q

-- a start and digits after it, with one digit more
pub place_next : (n : ℕ) (p : ℕ → Bool) (b u : ℕ → ℕ) (start place base digit : ℕ) (kept : Bool) → place ≡ start * radix_range n p b + radix n p b u → kept
    ≡ p n → base ≡ b n → digit ≡ u n
    → cond kept (place * base + digit) place ≡ start * radix_range (n + 1) p b + radix (n + 1) p b u
place_next n p b u start place base digit kept e f g h = let s : n + 1 ≡ suc n = omega arith in
    rw (s, e, f, g, h) (go (p n) (radix_range n p b) (radix n p b u) (b n) (u n))
  where
    go : (c : Bool) (x r y d : ℕ) → cond c ((start * x + r) * y + d) (start * x + r) ≡ start * cond c (x * y) x + cond c (r * y + d) r
    go true x r y d = omega arith
    go false x r y d = refl

-- all of them are below the range after the start
pub place_below : (n : ℕ) (p : ℕ → Bool) (b u : ℕ → ℕ) (start k : ℕ) → k ≤ n → ((i : ℕ) → i < n → u i < b i) → start * radix_range k p b
    + radix k p b u < (start + 1) * radix_range n p b
place_below n p b u start k le h =
    let r = radix-lt k p b u (λ i lt e. h i (omega arith)) in
    let g = radix_range-grows n p b k le (λ i lt. (let d = h i lt in omega arith)) in
    below start (radix k p b u) (radix_range k p b) (radix_range n p b) r g
  where
    below : (s r x y : ℕ) → r < x → x ≤ y → s * x + r < (s + 1) * y
    below s r x y lt le = grind arith

-- with the next digit, a place is below whatever is above the full range after the start
pub fits_next : (n : ℕ) (p : ℕ → Bool) (b u : ℕ → ℕ) (start k place base digit top : ℕ) (kept : Bool) → k < n → ((i : ℕ) → i < n → u i < b i)
    → (start + 1) * radix_range n p b < top
    → place ≡ start * radix_range k p b + radix k p b u → kept ≡ p k → base ≡ b k → digit ≡ u k → cond kept (place * base + digit) place < top
fits_next n p b u start k place base digit top kept lt h t e f g i =
    let s = place_next k p b u start place base digit kept e f g i in let l = place_below n p b u start (k + 1) (omega arith) h in omega arith
