-- Rows added by lanes.
use Rattle.std.proofs.Common.{ℕ, ◌+◌, ◌-◌, ◌%◌, ◌^◌, ◌≡◌, ◌<◌, ◌≤◌, List, length, get_or, sym, ap, ◌∙◌, arith, mod-eq_of_lt, inl, inr, ◌⊎◌}
use Rattle.std.specs.Simd.Lanes.{zip2, chunk, put_chunk}
use Rattle.std.proofs.lemmas.Bool.{cases_lt}
use Rattle.std.proofs.lemmas.Simd.{length-chunk, get_or-chunk, length-zip2, get_or-zip2, get_or-put_chunk_below, get_or-put_chunk_at, get_or-put_chunk_above}
use Rattle.count_table.specs.LaneSums.{Adds}

pub eight_adds : (into cells : List ℕ) (at from : ℕ) → at + 8 ≤ length into → from + 8 ≤ length cells
    → ((j : ℕ) → j < 8 → get_or into (at + j) 0 + get_or cells (from + j) 0 < 2 ^ 64)
    → Adds into (put_chunk at into (zip2 (λ x y. (x + y) % 2 ^ 64) (chunk at 8 into) (chunk from 8 cells))) cells at from 8
eight_adds into cells at from li lc room =
    let xs = chunk at 8 into in let ys = chunk from 8 cells in
    let ex : length xs ≡ 8 = length-chunk at 8 into li in let ey : length ys ≡ 8 = length-chunk from 8 cells lc in
    let zs = zip2 (λ x y. (x + y) % 2 ^ 64) xs ys in
    let ez : length zs ≡ 8 = length-zip2 (λ x y. (x + y) % 2 ^ 64) xs ys (ex ∙ sym ey) ∙ ex in
    record {
      inside = λ j lt.
          get_or-put_chunk_at at into zs j 0 (omega (arith, ez, lt)) (omega (arith, ez, li))
          ∙ get_or-zip2 (λ x y. (x + y) % 2 ^ 64) xs ys j 0 0 0 (omega (arith, ex, lt)) (omega (arith, ey, lt))
          ∙ ap (λ x. (x + get_or ys j 0) % 2 ^ 64) (get_or-chunk at 8 into j 0 lt)
          ∙ ap (λ y. (get_or into (at + j) 0 + y) % 2 ^ 64) (get_or-chunk from 8 cells j 0 lt)
          ∙ mod-eq_of_lt (room j lt);
      before = λ k lt. get_or-put_chunk_below at into zs k 0 lt;
      behind = λ k le. get_or-put_chunk_above at into zs k 0 (omega (arith, ez, le));
    }

split_at : (i m j : ℕ) (P : Type 0) → (j < i → P) → (i ≤ j → P) → P
split_at i m j P below above = go (tested j i)
  where
    tested : (j i : ℕ) → (j < i) ⊎ (i ≤ j)
    tested j i = cases_lt j i

    go : (j < i) ⊎ (i ≤ j) → P
    go (inl h) = below h
    go (inr h) = above h

-- m numbers more
pub adds_more : (old mid new cells : List ℕ) (at from i m : ℕ) → Adds old mid cells at from i → Adds mid new cells (at + i) (from + i) m
    → Adds old new cells at from (i + m)
adds_more old mid new cells at from i m a b = record {
  inside = λ j lt. split_at i m j (get_or new (at + j) 0 ≡ get_or old (at + j) 0 + get_or cells (from + j) 0)
      (λ below. b.before (at + j) (omega arith) ∙ a.inside j below)
      (λ above.
      let e : at + j ≡ at + i + (j - i) = omega arith in let f : from + j ≡ from + i + (j - i) = omega arith in
      ap (λ n. get_or new n 0) e ∙ b.inside (j - i) (omega arith)
      ∙ ap (λ n. get_or mid n 0 + get_or cells (from + i + (j - i)) 0) (sym e)
      ∙ ap (λ n. n + get_or cells (from + i + (j - i)) 0) (a.behind (at + j) (omega arith))
      ∙ ap (λ n. get_or old (at + j) 0 + get_or cells n 0) (sym f));
  before = λ k lt. b.before k (omega arith) ∙ a.before k lt;
  behind = λ k le. b.behind k (omega arith) ∙ a.behind k (omega arith);
}

-- there is room for what comes next
pub room_next : (old mid cells : List ℕ) (at from i inner : ℕ) → Adds old mid cells at from i → i + 8 ≤ inner
    → ((j : ℕ) → j < inner → get_or old (at + j) 0 + get_or cells (from + j) 0 < 2 ^ 64)
    → (j : ℕ) → j < 8 → get_or mid (at + i + j) 0 + get_or cells (from + i + j) 0 < 2 ^ 64
room_next old mid cells at from i inner a le room j lt =
    let e : at + (i + j) ≡ at + i + j = omega arith in let f : from + (i + j) ≡ from + i + j = omega arith in
    let r = room (i + j) (omega arith) in
    let s = a.behind (at + i + j) (omega arith) in
    omega (arith, r, s, ap (λ n. get_or old n 0) e, ap (λ n. get_or cells n 0) f)
