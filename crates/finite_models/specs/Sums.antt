-- Finite sums and products of natural numbers, and sums over the points of a finite box.
use Rattle.std.specs.Prelude.{ℕ, zero, suc, ◌+◌, ◌*◌, Bool, true, if◌then◌else◌, ◌==◌, ◌&&◌}

-- f 0 + .. + f (k - 1)
abbrev pub sum_below : ℕ → (ℕ → ℕ) → ℕ
sum_below zero f = 0
sum_below (suc k) f = sum_below k f + f k

-- f 0 * .. * f (k - 1)
abbrev pub product_below : ℕ → (ℕ → ℕ) → ℕ
product_below zero f = 1
product_below (suc k) f = product_below k f * f k

-- p 0 && .. && p (k - 1)
abbrev pub all_below : ℕ → (ℕ → Bool) → Bool
all_below zero p = true
all_below (suc k) p = all_below k p && p k

-- the point b with x in place of its coordinate i
abbrev pub set_at : (ℕ → ℕ) → ℕ → ℕ → ℕ → ℕ
set_at b i x k = if k == i then x else b k

-- the sum of f over all points that differ from b at most in the coordinates i below n with u i, such a coordinate ranging below s i
abbrev pub sum_over : (ℕ → Bool) → (ℕ → ℕ) → ℕ → ((ℕ → ℕ) → ℕ) → (ℕ → ℕ) → ℕ
sum_over u s zero f b = f b
sum_over u s (suc n) f b = if u n then (sum_below (s n) (λ x. sum_over u s n f (set_at b n x))) else sum_over u s n f b
