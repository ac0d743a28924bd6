-- A table's index is in range, and reads the parents and the causes alone.
use Rattle.std.proofs.Common.{ℕ, zero, suc, ◌+◌, ◌*◌, ◌≡◌, ◌<◌, Bool, true, false, cond, refl, ap, ap₂, List, arith}
use Rattle.finite_models.specs.Tables.{radix, radix_range, table_index, table_range, table_value}

pub radix-congr : (n : ℕ) (p : ℕ → Bool) (b s t : ℕ → ℕ) → ((k : ℕ) → k < n → p k ≡ true → s k ≡ t k) → radix n p b s ≡ radix n p b t
radix-congr zero p b s t h = refl
radix-congr (suc n) p b s t h = go (p n) refl (radix-congr n p b s t (λ k lt e. h k (omega arith) e))
  where
    go : (c : Bool) → p n ≡ c → radix n p b s ≡ radix n p b t → cond c (radix n p b s * b n + s n) (radix n p b s)
        ≡ cond c (radix n p b t * b n + t n) (radix n p b t)
    go true e ih = ap₂ (λ q r. q * b n + r) ih (h n (omega arith) e)
    go false e ih = ih

digit : (x y b d : ℕ) → x < y → d < b → x * b + d < y * b
digit x y b d lt l = grind arith

-- where each digit that is kept is below its base, the number is below the range
pub radix-lt : (n : ℕ) (p : ℕ → Bool) (b s : ℕ → ℕ) → ((k : ℕ) → k < n → p k ≡ true → s k < b k) → radix n p b s < radix_range n p b
radix-lt zero p b s h = omega arith
radix-lt (suc n) p b s h = go (p n) refl (radix-lt n p b s (λ k lt e. h k (omega arith) e))
  where
    go : (c : Bool) → p n ≡ c → radix n p b s < radix_range n p b → cond c (radix n p b s * b n + s n) (radix n p b s) < cond c (radix_range n p b * b n)
        (radix_range n p b)
    go true e ih = digit (radix n p b s) (radix_range n p b) (b n) (s n) ih (h n (omega arith) e)
    go false e ih = ih

-- where the values that are read are below their sizes, the place is below the number of outputs
pub table_index-lt : (n m : ℕ) (parent serves : ℕ → Bool) (size values s u : ℕ → ℕ) → ((p : ℕ) → p < n → parent p ≡ true → s p < size p)
    → ((j : ℕ) → j < m → serves j ≡ true → u j < values j)
    → table_index n m parent serves size values s u < table_range n m parent serves size values
table_index-lt n m parent serves size values s u hs hu =
    digit (radix n parent size s) (radix_range n parent size) (radix_range m serves values) (radix m serves values u) (radix-lt n parent size s hs)
    (radix-lt m serves values u hu)

-- values that agree on the parents and on the causes that are read give the same output
pub table_reads : (outputs : List ℕ) (n m : ℕ) (parent serves : ℕ → Bool) (size values s t u w : ℕ → ℕ) → ((p : ℕ) → p < n → parent p ≡ true → s p ≡ t p)
    → ((j : ℕ) → j < m → serves j ≡ true → u j ≡ w j)
    → table_value outputs (table_index n m parent serves size values s u) ≡ table_value outputs (table_index n m parent serves size values t w)
table_reads outputs n m parent serves size values s t u w hs hu =
    ap (table_value outputs) (ap₂ (λ q r. q * radix_range m serves values + r) (radix-congr n parent size s t hs) (radix-congr m serves values u w hu))
