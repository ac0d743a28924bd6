-- The rows of a dense table sum up the rows that it was made of.
use Rattle.std.proofs.Common.{ℕ, zero, suc, ◌+◌, ◌≡◌, ◌≢◌, ◌<◌, Bool, true, false, cond, eqb, List, [], ◌∷◌, length, get_or, map, All, refl, sym, ap}
use Rattle.std.proofs.Common.{◌∙◌, arith, bit_and, sum_by, if◌then◌else◌, ◌==◌}
use Rattle.std.proofs.lemmas.List.Elements.{All-head, All-tail}
use Rattle.std.proofs.lemmas.List.Sums.{sum_by-cons}
use Rattle.std.proofs.lemmas.Bool.{cases_eq, eq-eqb, ne_eqb}
use Rattle.std.proofs.Common.{inl, inr}
use Rattle.count_table.specs.LaneSums.{sum_below, if_matched, matched_sum}
use Rattle.count_rows.specs.Vocabulary.{product, Row, agrees, counted}
use Rattle.count_table.specs.Cells.{cells_of, place_of, IsCell, rows_with, total, count_at}
use Rattle.count_table.proofs.CellLists.{place_of-lt, length-cells_of, cell_at_place}

-- ---- rows from cells and counts

pub cells-rows_with : (cells : List (List ℕ)) (counts : List ℕ) → length cells ≡ length counts → map (λ (r : Row). r.cell) (rows_with cells counts) ≡ cells
unfolding rows_with
cells-rows_with [] counts h = refl
cells-rows_with (cell ∷ cells) [] h = absurd (omega arith)
cells-rows_with (cell ∷ cells) (n ∷ counts) h = ap (λ (l : List (List ℕ)). cell ∷ l) (cells-rows_with cells counts (omega arith))

pub counts-rows_with : (cells : List (List ℕ)) (counts : List ℕ) → length cells ≡ length counts → map (λ (r : Row). r.count) (rows_with cells counts) ≡ counts
unfolding rows_with
counts-rows_with [] [] h = refl
counts-rows_with [] (n ∷ counts) h = absurd (omega arith)
counts-rows_with (cell ∷ cells) [] h = absurd (omega arith)
counts-rows_with (cell ∷ cells) (n ∷ counts) h = ap (λ (l : List ℕ). n ∷ l) (counts-rows_with cells counts (omega arith))

pub codes-rows_with : (f : List ℕ → ℕ) (cells : List (List ℕ)) (counts : List ℕ) → length cells ≡ length counts
    → map (λ (r : Row). f r.cell) (rows_with cells counts) ≡ map f cells
unfolding rows_with
codes-rows_with f [] counts h = refl
codes-rows_with f (cell ∷ cells) [] h = absurd (omega arith)
codes-rows_with f (cell ∷ cells) (n ∷ counts) h = ap (λ (l : List ℕ). f cell ∷ l) (codes-rows_with f cells counts (omega arith))

-- ---- sums over indices

sum_below-first : (n : ℕ) (f : ℕ → ℕ) → sum_below (suc n) f ≡ f 0 + sum_below n (λ i. f (suc i))
sum_below-first zero f = omega arith
sum_below-first (suc n) f = let a = sum_below-first n f in omega (arith, a)

pub sum_below-same : (n : ℕ) (f g : ℕ → ℕ) → ((i : ℕ) → i < n → f i ≡ g i) → sum_below n f ≡ sum_below n g
sum_below-same zero f g h = refl
sum_below-same (suc n) f g h = let a = sum_below-same n f g (λ i lt. h i (omega arith)) in let b = h n (omega arith) in omega (arith, a, b)

sum_below-zero : (n : ℕ) (f : ℕ → ℕ) → ((i : ℕ) → i < n → f i ≡ 0) → sum_below n f ≡ 0
sum_below-zero zero f h = refl
sum_below-zero (suc n) f h = let a = sum_below-zero n f (λ i lt. h i (omega arith)) in let b = h n (omega arith) in omega (arith, a, b)

sum_below-plus : (n : ℕ) (f g : ℕ → ℕ) → sum_below n (λ i. f i + g i) ≡ sum_below n f + sum_below n g
sum_below-plus zero f g = refl
sum_below-plus (suc n) f g = let a = sum_below-plus n f g in omega (arith, a)

-- a sum with one term that isn't 0
only_one : (n j : ℕ) (f : ℕ → ℕ) → j < n → ((i : ℕ) → i < n → i ≢ j → f i ≡ 0) → sum_below n f ≡ f j
only_one zero j f lt h = absurd (omega arith)
only_one (suc n) j f lt h = elim (cases_eq n j) [
  | inl same ↦
      let others = sum_below-zero n f (λ i less. h i (omega arith) (λ e. omega (arith, e, same))) in
      let here = ap f same in
      omega (arith, others, here)
  | inr other ↦
      let last = h n (omega arith) other in
      let rest = only_one n j f (omega (arith, other)) (λ i less ne. h i (omega arith) ne) in
      omega (arith, last, rest)
]

-- the sum over the rows of a table is the sum over their indices
sum_by-index : (f : Row → ℕ) (cells : List (List ℕ)) (counts : List ℕ) → length cells ≡ length counts
    → sum_by f (rows_with cells counts) ≡ sum_below (length cells) (λ i. f (record { cell = get_or cells i []; count = get_or counts i 0 }))
unfolding rows_with
sum_by-index f [] counts h = refl
sum_by-index f (cell ∷ cells) [] h = absurd (omega arith)
sum_by-index f (cell ∷ cells) (n ∷ counts) h =
    sum_by-cons f (record { cell = cell; count = n }) (rows_with cells counts)
    ∙ ap (λ m. f (record { cell = cell; count = n }) + m) (sum_by-index f cells counts (omega arith))
    ∙ sym (sum_below-first (length cells) (λ i. f (record { cell = get_or (cell ∷ cells) i []; count = get_or (n ∷ counts) i 0 })))

-- ---- a table adds up its rows

either : (b : Bool) (m n : ℕ) → cond b (m + n) 0 ≡ cond b m 0 + cond b n 0
either true m n = refl
either false m n = refl

neither : (b : Bool) → ◌≡◌ {A = ℕ} (cond b 0 0) 0
neither true = refl
neither false = refl

-- the count of the row r, at its own place
abbrev pub at_own_place : List ℕ → Row → ℕ → ℕ
at_own_place sizes r i = if place_of sizes r.cell == i then r.count else 0

own_place : (sizes : List ℕ) (r : Row) → at_own_place sizes r (place_of sizes r.cell) ≡ r.count
own_place sizes r = ap (λ b. cond b r.count 0) (eq-eqb (place_of sizes r.cell) (place_of sizes r.cell) refl)

other_place : (sizes : List ℕ) (r : Row) (i : ℕ) → i ≢ place_of sizes r.cell → at_own_place sizes r i ≡ 0
other_place sizes r i ne = ap (λ b. cond b r.count 0) (let e : eqb (place_of sizes r.cell) i ≡ false = ne_eqb (place_of sizes r.cell) i (λ s. ne (sym s)) in e)

-- one row, spread over the table
one_row : (b : ℕ → Bool) (sizes : List ℕ) (r : Row) → IsCell sizes r.cell → sum_below (product sizes) (λ i. cond (b i) (at_own_place sizes r i) 0)
    ≡ cond (b (place_of sizes r.cell)) r.count 0
one_row b sizes r h =
    only_one (product sizes) (place_of sizes r.cell) (λ i. cond (b i) (at_own_place sizes r i) 0) (place_of-lt sizes r.cell h)
    (λ i lt ne. ap (λ m. cond (b i) m 0) (other_place sizes r i ne) ∙ neither (b i))
    ∙ ap (λ m. cond (b (place_of sizes r.cell)) m 0) (own_place sizes r)

all_rows : (vs sizes : List ℕ) (rows : List Row) (of : ℕ → Bool) (at : ℕ → ℕ) → All (λ (r : Row). IsCell sizes r.cell) rows
    → sum_below (product sizes) (λ i. cond (agrees vs (get_or (cells_of sizes) i []) of at) (count_at sizes rows i) 0) ≡ counted vs rows of at
all_rows vs sizes [] of at h = sum_below-zero (product sizes) (λ i. cond (agrees vs (get_or (cells_of sizes) i []) of at) 0 0)
    (λ i lt. neither (agrees vs (get_or (cells_of sizes) i []) of at))
all_rows vs sizes (r ∷ rows) of at h =
    let b : ℕ → Bool = λ i. agrees vs (get_or (cells_of sizes) i []) of at in
    let first = All-head (λ (x : Row). IsCell sizes x.cell) r rows h in
    let rest = All-tail (λ (x : Row). IsCell sizes x.cell) r rows h in
    sum_below-same (product sizes) (λ i. cond (b i) (count_at sizes (r ∷ rows) i) 0)
    (λ i. cond (b i) (at_own_place sizes r i) 0 + cond (b i) (count_at sizes rows i) 0)
    (λ i lt. ap (λ m. cond (b i) m 0) (sum_by-cons (λ (x : Row). at_own_place sizes x i) r rows)
    ∙ either (b i) (at_own_place sizes r i) (count_at sizes rows i))
    ∙ sum_below-plus (product sizes) (λ i. cond (b i) (at_own_place sizes r i) 0) (λ i. cond (b i) (count_at sizes rows i) 0)
    ∙ ap (λ m. m + sum_below (product sizes) (λ i. cond (b i) (count_at sizes rows i) 0))
    (one_row b sizes r first ∙ ap (λ (c : List ℕ). cond (agrees vs c of at) r.count 0) (cell_at_place sizes r.cell [] first))
    ∙ ap (λ m. cond (agrees vs r.cell of at) r.count 0 + m) (all_rows vs sizes rows of at rest)
    ∙ sym (sum_by-cons (λ (x : Row). cond (agrees vs x.cell of at) x.count 0) r rows)

-- a table whose counts are the sums at the places says the same as its rows
pub counted_alike : (vs sizes : List ℕ) (rows : List Row) (cells : List ℕ) (of : ℕ → Bool) (at : ℕ → ℕ) → All (λ (r : Row). IsCell sizes r.cell) rows
    → length cells ≡ product sizes → ((i : ℕ) → i < product sizes → get_or cells i 0 ≡ count_at sizes rows i)
    → counted vs (rows_with (cells_of sizes) cells) of at ≡ counted vs rows of at
counted_alike vs sizes rows cells of at h long same =
    let many = length-cells_of sizes in
    sum_by-index (λ (r : Row). cond (agrees vs r.cell of at) r.count 0) (cells_of sizes) cells (many ∙ sym long)
    ∙ ap (λ n. sum_below n (λ i. cond (agrees vs (get_or (cells_of sizes) i []) of at) (get_or cells i 0) 0)) many
    ∙ sum_below-same (product sizes) (λ i. cond (agrees vs (get_or (cells_of sizes) i []) of at) (get_or cells i 0) 0)
    (λ i. cond (agrees vs (get_or (cells_of sizes) i []) of at) (count_at sizes rows i) 0)
    (λ i lt. ap (λ m. cond (agrees vs (get_or (cells_of sizes) i []) of at) m 0) (same i lt))
    ∙ all_rows vs sizes rows of at h

-- the sum over the rows of a table is the masked sum over its counts and codes
pub masked_is_counted : (vs : List ℕ) (code : List ℕ → ℕ) (mask want : ℕ) (rows : List Row) (of : ℕ → Bool) (at : ℕ → ℕ)
    → All (λ (r : Row). eqb (bit_and (code r.cell) mask) want ≡ agrees vs r.cell of at) rows
    → matched_sum mask want (length rows) (map (λ (r : Row). r.count) rows) (map (λ (r : Row). code r.cell) rows) ≡ counted vs rows of at
masked_is_counted vs code mask want [] of at h = refl
masked_is_counted vs code mask want (r ∷ rows) of at h =
    sum_below-first (length rows) (λ i. if_matched mask want (get_or (r.count ∷ map (λ (x : Row). x.count) rows) i 0)
    (get_or (code r.cell ∷ map (λ (x : Row). code x.cell) rows) i 0))
    ∙ ap (λ b. cond b r.count 0 + matched_sum mask want (length rows) (map (λ (x : Row). x.count) rows) (map (λ (x : Row). code x.cell) rows))
    (All-head (λ (x : Row). eqb (bit_and (code x.cell) mask) want ≡ agrees vs x.cell of at) r rows h)
    ∙ ap (λ m. cond (agrees vs r.cell of at) r.count 0 + m) (masked_is_counted vs code mask want rows
    of at (All-tail (λ (x : Row). eqb (bit_and (code x.cell) mask) want ≡ agrees vs x.cell of at) r rows h))
    ∙ sym (sum_by-cons (λ (x : Row). cond (agrees vs x.cell of at) x.count 0) r rows)

-- every row agrees on no vertex
agrees-none : (vs cell : List ℕ) (at : ℕ → ℕ) → agrees vs cell (λ v. false) at ≡ true
agrees-none [] cell at = refl
agrees-none (v ∷ vs) [] at = refl
agrees-none (v ∷ vs) (x ∷ xs) at = agrees-none vs xs at

counted-none : (vs : List ℕ) (rows : List Row) → counted vs rows (λ v. false) (λ v. 0) ≡ total rows
counted-none vs [] = refl
counted-none vs (r ∷ rows) =
    sum_by-cons (λ (x : Row). cond (agrees vs x.cell (λ v. false) (λ v. 0)) x.count 0) r rows
    ∙ ap (λ b. cond b r.count 0 + counted vs rows (λ v. false) (λ v. 0)) (agrees-none vs r.cell (λ v. 0))
    ∙ ap (λ m. r.count + m) (counted-none vs rows)
    ∙ sym (sum_by-cons (λ (x : Row). x.count) r rows)

pub total_alike : (vs sizes : List ℕ) (rows : List Row) (cells : List ℕ) → All (λ (r : Row). IsCell sizes r.cell) rows
    → length cells ≡ product sizes → ((i : ℕ) → i < product sizes → get_or cells i 0 ≡ count_at sizes rows i)
    → total (rows_with (cells_of sizes) cells) ≡ total rows
total_alike vs sizes rows cells h long same =
    sym (counted-none vs (rows_with (cells_of sizes) cells)) ∙ counted_alike vs sizes rows cells (λ v. false) (λ v. 0) h long same ∙ counted-none vs rows
