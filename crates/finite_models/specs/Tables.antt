-- Mechanisms given by a table, indexed in mixed radix by the parents' values in index order and then by the causes' values in list order, the first
-- varying slowest.
use Rattle.std.specs.Prelude.{ℕ, zero, suc, ◌+◌, ◌*◌, Bool, if◌then◌else◌, List, slice_index}

-- the number written by the digits s k, for the k below n with p k, digit k having the base b k
abbrev pub radix : ℕ → (ℕ → Bool) → (ℕ → ℕ) → (ℕ → ℕ) → ℕ
radix zero p b s = 0
radix (suc n) p b s = if p n then (radix n p b s * b n + s n) else radix n p b s

-- how many such numbers there are
abbrev pub radix_range : ℕ → (ℕ → Bool) → (ℕ → ℕ) → ℕ
radix_range zero p b = 1
radix_range (suc n) p b = if p n then (radix_range n p b * b n) else radix_range n p b

-- the place of an output: n vertices of which those with `parent` are read, m causes of which those with `serves` are read
abbrev pub table_index : ℕ → ℕ → (ℕ → Bool) → (ℕ → Bool) → (ℕ → ℕ) → (ℕ → ℕ) → (ℕ → ℕ) → (ℕ → ℕ) → ℕ
table_index n m parent serves size values s u = radix n parent size s * radix_range m serves values + radix m serves values u

-- how many outputs there are
abbrev pub table_range : ℕ → ℕ → (ℕ → Bool) → (ℕ → Bool) → (ℕ → ℕ) → (ℕ → ℕ) → ℕ
table_range n m parent serves size values = radix_range n parent size * radix_range m serves values

-- the output at a place
abbrev pub table_value : List ℕ → ℕ → ℕ
table_value outputs i = slice_index outputs i
