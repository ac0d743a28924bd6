-- Sums over one axis.
use Rattle.std.proofs.Common.{ℕ, zero, suc, ◌+◌, ◌*◌, ◌-◌, ◌^◌, ◌≡◌, ◌<◌, ◌≤◌, List, length, get_or, refl, sym, ap, ◌∙◌, subst, arith, sum}
use Rattle.std.proofs.Common.{mul-le-mul_right, mul-le-mul_left, inl, inr, ◌⊎◌}
use Rattle.std.proofs.lemmas.Bool.{cases_lt}
use Rattle.std.proofs.lemmas.List.Sums.{sum_by-take-le}
use Rattle.count_table.specs.LaneSums.{sum_below, Adds, axis_total}
use Rattle.count_table.proofs.LaneLaws.{index_sum, sum_below-add}

pub lower : (p o inner i : ℕ) → p < o → i < inner → p * inner + i < o * inner
lower p o inner i h k = grind arith

pub higher : (p o inner i : ℕ) → o < p → o * inner + inner ≤ p * inner + i
higher p o inner i h = grind arith

sum_more : (n m : ℕ) (f : ℕ → ℕ) → n ≤ m → sum_below n f ≤ sum_below m f
sum_more n m f le = let e = sum_below-add n (m - n) f in let r : n + (m - n) ≡ m = omega arith in omega (arith, e, ap (λ k. sum_below k f) r)

strided : (f : ℕ → ℕ) (start step n m : ℕ) → 1 ≤ step → start + n * step < m + step → sum_below n (λ a. f (start + a * step)) ≤ sum_below m f
strided f start step zero m le lt = omega arith
strided f start step (suc n) m le lt =
    let big : start + n * step < m = (let r : suc n * step ≡ n * step + step = omega arith in omega arith) in
    let ih = strided f start step n (start + n * step) le (omega arith) in
    let up = sum_more (suc (start + n * step)) m f (omega arith) in
    omega (arith, ih, up)

-- a sum along the axis is at most the sum of all cells
pub axis_le : (outer axis inner o i n : ℕ) (cells : List ℕ) → length cells ≡ outer * axis * inner → o < outer → i < inner → n ≤ axis
    → sum_below n (λ a. get_or cells ((o * axis + a) * inner + i) 0) ≤ sum cells
axis_le outer axis inner o i n cells long lo li ln =
    let f : ℕ → ℕ = λ j. get_or cells j 0 in
    let within : (o * axis * inner + i) + n * inner < length cells + inner = bound in
    let a = strided f (o * axis * inner + i) inner n (length cells) (omega arith) within in
    let b = index_sum (length cells) cells (omega arith) in
    let c = sum_by-take-le (λ y. y) cells (length cells) in
    let e = same n in
    omega (arith, a, b, c, e)
  where
    step : (o outer axis : ℕ) → o < outer → o * axis + axis ≤ outer * axis
    step o outer axis h = grind arith

    bound : (o * axis * inner + i) + n * inner < length cells + inner
    bound =
        let a : (o * axis + axis) * inner ≤ (outer * axis) * inner = mul-le-mul_right inner (step o outer axis lo) in
        let b : n * inner ≤ axis * inner = mul-le-mul_right inner ln in
        omega (arith, long)

    same : (n : ℕ) → sum_below n (λ a. get_or cells ((o * axis + a) * inner + i) 0) ≡ sum_below n (λ a. get_or cells ((o * axis * inner + i) + a * inner) 0)
    same zero = refl
    same (suc n) = let e : (o * axis + n) * inner + i ≡ (o * axis * inner + i) + n * inner = omega arith in let s = same n in
        omega (arith, s, ap (λ j. get_or cells j 0) e)

pub record IsSummed (into cells : List ℕ) (outer axis inner o a : ℕ) : Type 0 where
  pub long : length into ≡ outer * inner
  pub done : (p i : ℕ) → p < o → i < inner → get_or into (p * inner + i) 0 ≡ axis_total axis inner p i cells
  pub here : (i : ℕ) → o < outer → i < inner → get_or into (o * inner + i) 0 ≡ sum_below a (λ b. get_or cells ((o * axis + b) * inner + i) 0)
  pub blank : (p i : ℕ) → o < p → p < outer → i < inner → get_or into (p * inner + i) 0 ≡ 0

-- one row more
pub row_more : (into new cells : List ℕ) (outer axis inner o a : ℕ) → o < outer → length new ≡ length into → IsSummed into cells outer axis inner o a
    → Adds into new cells (o * inner) ((o * axis + a) * inner) inner → IsSummed new cells outer axis inner o (a + 1)
row_more into new cells outer axis inner o a lo ln s h = record {
  long = ln ∙ s.long;
  done = λ p i lt li. h.before (p * inner + i) (lower p o inner i lt li) ∙ s.done p i lt li;
  here = λ i lt li.
      h.inside i li ∙ ap (λ n. n + get_or cells ((o * axis + a) * inner + i) 0) (s.here i lt li)
      ∙ ap (λ n. sum_below n (λ b. get_or cells ((o * axis + b) * inner + i) 0)) (let r : suc a ≡ a + 1 = omega arith in r);
  blank = λ p i lt lp li. h.behind (p * inner + i) (higher p o inner i lt) ∙ s.blank p i lt lp li;
}

-- on to the next block
pub next_block : (into cells : List ℕ) (outer axis inner o : ℕ) → IsSummed into cells outer axis inner o axis → o < outer
    → IsSummed into cells outer axis inner (o + 1) 0
next_block into cells outer axis inner o s lo = record {
  long = s.long;
  done = λ p i lt li. split p i lt li;
  here = λ i lt li. s.blank (o + 1) i (omega arith) lt li;
  blank = λ p i lt lp li. s.blank p i (omega arith) lp li;
}
  where
    split : (p i : ℕ) → p < o + 1 → i < inner → get_or into (p * inner + i) 0 ≡ axis_total axis inner p i cells
    split p i lt li = go (cases_lt p o)
      where
        go : (p < o) ⊎ (o ≤ p) → get_or into (p * inner + i) 0 ≡ axis_total axis inner p i cells
        go (inl h) = s.done p i h li
        go (inr h) = let e : p ≡ o = omega arith in subst (λ x. get_or into (x * inner + i) 0 ≡ axis_total axis inner x i cells) (sym e) (s.here i lo li)

-- a block's number and a row's fit where the cells do
pub block_fits : (outer axis inner o a l : ℕ) → l ≡ outer * axis * inner → o < outer → a < axis → 1 ≤ inner → o * axis + a < l
block_fits outer axis inner o a l e lo la li =
    let x : o * axis + axis ≤ outer * axis = step o outer axis lo in
    let y : (outer * axis) * 1 ≤ (outer * axis) * inner = mul-le-mul_left (outer * axis) li in
    omega (arith, e)
  where
    step : (o outer axis : ℕ) → o < outer → o * axis + axis ≤ outer * axis
    step o outer axis h = grind arith

pub room_here : (into cells : List ℕ) (outer axis inner o a : ℕ) → length cells ≡ outer * axis * inner → sum cells < 2 ^ 64 → o < outer → a < axis
    → IsSummed into cells outer axis inner o a
    → (j : ℕ) → j < inner → get_or into (o * inner + j) 0 + get_or cells ((o * axis + a) * inner + j) 0 < 2 ^ 64
room_here into cells outer axis inner o a long room lo la s j lj =
    let le = axis_le outer axis inner o j (suc a) cells long lo lj (omega arith) in
    let h = s.here j lo lj in
    omega (arith, le, h, room)
