-- Plain sums over indices.
use Rattle.std.specs.Prelude.{ℕ, zero, suc, ◌+◌, ◌*◌, ◌≡◌, ◌<◌, ◌≤◌, List, if◌then◌else◌, ◌==◌, bit_and, slice_index}

-- f 0 + .. + f (k - 1)
abbrev pub sum_below : ℕ → (ℕ → ℕ) → ℕ
sum_below zero f = 0
sum_below (suc k) f = sum_below k f + f k

-- the number, where its code under the mask is the wanted one, else 0
abbrev pub if_matched : ℕ → ℕ → ℕ → ℕ → ℕ
if_matched mask want count code = if bit_and code mask == want then count else 0

-- the sum of the first n numbers whose codes under the mask are the wanted one
abbrev pub matched_sum : ℕ → ℕ → ℕ → List ℕ → List ℕ → ℕ
matched_sum mask want n counts codes = sum_below n (λ i. if_matched mask want (slice_index counts i) (slice_index codes i))

-- the number at place (o, a, i) of `outer` blocks of `axis` rows of `inner`, summed over a
abbrev pub axis_total : ℕ → ℕ → ℕ → ℕ → List ℕ → ℕ
axis_total axis inner o i cells = sum_below axis (λ a. slice_index cells ((o * axis + a) * inner + i))

-- from place `at` of old on, n numbers have grown by those from place `from` of cells on
pub record Adds (old new cells : List ℕ) (at from n : ℕ) : Type 0 where
  pub inside : (j : ℕ) → j < n → slice_index new (at + j) ≡ slice_index old (at + j) + slice_index cells (from + j)
  pub before : (k : ℕ) → k < at → slice_index new k ≡ slice_index old k
  pub behind : (k : ℕ) → at + n ≤ k → slice_index new k ≡ slice_index old k
