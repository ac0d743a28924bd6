-- Adding rows to the cells of a table, one after the other.
use Rattle.std.proofs.Common.{ℕ, suc, ◌+◌, ◌*◌, ◌-◌, ◌≡◌, ◌<◌, ◌≤◌, Bool, true, false, cond, eqb, List, [], ◌∷◌, ◌++◌, length, get_or, set, map, take}
use Rattle.std.proofs.Common.{drop, All, refl, sym, ap, subst, ◌∙◌, inl, inr, arith, sum, replicate, length-set, length-drop, drop_of_length-le}
use Rattle.std.proofs.Math.Seq.{take-append_seam, drop-append_seam}
use Rattle.std.specs.List.{flat_map}
use Rattle.std.proofs.lemmas.List.{get_or-set_same, get_or-set_other, get_or-replicate, take_all}
use Rattle.std.proofs.lemmas.List.Elements.{All-head, All-tail}
use Rattle.std.proofs.lemmas.List.Sums.{sum_by-cons}
use Rattle.std.proofs.lemmas.Bool.{cases_eq, eq-eqb, ne_eqb}
use Rattle.count_rows.specs.Vocabulary.{Row}
use Rattle.count_table.specs.Cells.{place_of, IsCell, rows_from, count_at, total}
use Rattle.count_table.proofs.TableSteps.{suffix}

-- the first row, and those behind it
pub rows_from-suffix : (w : ℕ) (rest counts : List ℕ) (i : ℕ) → i < length counts → rows_from w rest (drop i counts)
    ≡ record { cell = take w rest; count = get_or counts i 0 } ∷ rows_from w (drop w rest) (drop (i + 1) counts)
unfolding rows_from
rows_from-suffix w rest counts i lt = ap (rows_from w rest) (suffix counts i 0 lt)

pub total-rows_from : (w : ℕ) (rest counts : List ℕ) → total (rows_from w rest counts) ≡ sum counts
unfolding rows_from
total-rows_from w rest [] = refl
total-rows_from w rest (n ∷ counts) =
    sum_by-cons (λ (r : Row). r.count) (record { cell = take w rest; count = n }) (rows_from w (drop w rest) counts)
    ∙ ap (λ m. n + m) (total-rows_from w (drop w rest) counts) ∙ sym (sum_by-cons (λ k. k) n counts)

if_le : (b : Bool) (m : ℕ) → cond b m 0 ≤ m
if_le true m = omega arith
if_le false m = omega arith

pub count_at-le : (sizes : List ℕ) (rows : List Row) (i : ℕ) → count_at sizes rows i ≤ total rows
count_at-le sizes [] i = omega arith
count_at-le sizes (r ∷ rows) i =
    let a = sum_by-cons (λ (x : Row). cond (eqb (place_of sizes x.cell) i) x.count 0) r rows in
    let b = sum_by-cons (λ (x : Row). x.count) r rows in
    let c = if_le (eqb (place_of sizes r.cell) i) r.count in
    let d = count_at-le sizes rows i in
    omega (arith, a, b, c, d)

-- the count of one row more, at its place and elsewhere
pub count_at-here : (sizes : List ℕ) (r : Row) (rows : List Row) (i : ℕ) → place_of sizes r.cell ≡ i → count_at sizes (r ∷ rows) i ≡ r.count
    + count_at sizes rows i
count_at-here sizes r rows i e =
    sum_by-cons (λ (x : Row). cond (eqb (place_of sizes x.cell) i) x.count 0) r rows
    ∙ ap (λ (b : Bool). cond b r.count 0 + count_at sizes rows i) (eq-eqb (place_of sizes r.cell) i e)

pub count_at-there : (sizes : List ℕ) (r : Row) (rows : List Row) (i : ℕ) → (place_of sizes r.cell ≡ i → ⊥) → count_at sizes (r ∷ rows) i
    ≡ count_at sizes rows i
count_at-there sizes r rows i ne =
    sum_by-cons (λ (x : Row). cond (eqb (place_of sizes x.cell) i) x.count 0) r rows
    ∙ ap (λ (b : Bool). cond b r.count 0 + count_at sizes rows i) (ne_eqb (place_of sizes r.cell) i ne)
    ∙ omega arith

-- so many cells; the numbers of the rows to come; and each cell's count so far with that of these rows is that of all
pub record IsFilling (sizes : List ℕ) (cells w : ℕ) (made rest counts numbers : List ℕ) (i : ℕ) : Type 0 where
  pub size : length made ≡ cells
  pub long : length rest ≡ w * (length counts - i)
  pub each : All (λ (r : Row). IsCell sizes r.cell) (rows_from w rest (drop i counts))
  pub so_far : (k : ℕ) → k < cells → get_or made k 0 + count_at sizes (rows_from w rest (drop i counts)) k ≡ count_at sizes (rows_from w numbers counts) k

pub filling-start : (sizes : List ℕ) (cells w : ℕ) (counts numbers made : List ℕ) → made ≡ replicate cells 0 → length made ≡ cells → length numbers
    ≡ w * length counts
    → All (λ (r : Row). IsCell sizes r.cell) (rows_from w numbers counts) → IsFilling sizes cells w made numbers counts numbers 0
filling-start sizes cells w counts numbers made e size long each = record {
  size = size;
  long = long ∙ ap (λ k. w * k) (let q : length counts ≡ length counts - 0 = omega arith in q);
  each = each;
  so_far = λ k lt. (let z : get_or made k 0 ≡ 0 = ap (λ (l : List ℕ). get_or l k 0) e ∙ get_or-replicate cells k 0 0 lt in omega (arith, z));
}

-- the next cell's numbers are there
pub filling-long : (sizes : List ℕ) (cells w : ℕ) (made rest counts numbers : List ℕ) (i : ℕ) → i < length counts
    → IsFilling sizes cells w made rest counts numbers i → w ≤ length rest
filling-long sizes cells w made rest counts numbers i lt h =
    let e : w * (length counts - i) ≡ w * suc (length counts - (i + 1)) =
    ap (λ k. w * k) (let q : length counts - i ≡ suc (length counts - (i + 1)) = omega arith in q) in
    let l = h.long in
    omega (arith, e, l)

-- and they are a cell
pub filling-cell : (sizes : List ℕ) (cells w : ℕ) (made rest counts numbers : List ℕ) (i : ℕ) → i < length counts
    → IsFilling sizes cells w made rest counts numbers i → IsCell sizes (take w rest)
filling-cell sizes cells w made rest counts numbers i lt h =
    All-head (λ (r : Row). IsCell sizes r.cell) (record { cell = take w rest; count = get_or counts i 0 }) (rows_from w (drop w rest) (drop (i + 1) counts))
    (subst (λ (l : List Row). All (λ (r : Row). IsCell sizes r.cell) l) (rows_from-suffix w rest counts i lt) h.each)

-- the sum stays within the total
pub filling-fits : (sizes : List ℕ) (cells w : ℕ) (made rest counts numbers : List ℕ) (i place : ℕ) → i < length counts → place < cells
    → IsFilling sizes cells w made rest counts numbers i
    → place_of sizes (take w rest) ≡ place → get_or made place 0 + get_or counts i 0 ≤ sum counts
filling-fits sizes cells w made rest counts numbers i place lt within h e =
    let a = h.so_far place within in
    let b = ap (λ (l : List Row). count_at sizes l place) (rows_from-suffix w rest counts i lt) in
    let c = count_at-here sizes (record { cell = take w rest; count = get_or counts i 0 }) (rows_from w (drop w rest) (drop (i + 1) counts)) place e in
    let d = count_at-le sizes (rows_from w numbers counts) place in
    let f = total-rows_from w numbers counts in
    omega (arith, a, b, c, d, f)

filled_at : (sizes : List ℕ) (cells w : ℕ) (made rest counts numbers : List ℕ) (i place k : ℕ) → i < length counts → place < cells → k < cells
    → IsFilling sizes cells w made rest counts numbers i
    → place_of sizes (take w rest) ≡ place
    → get_or (set made place (get_or made place 0 + get_or counts i 0)) k 0 + count_at sizes (rows_from w (drop w rest) (drop (i + 1) counts)) k
    ≡ count_at sizes (rows_from w numbers counts) k
filled_at sizes cells w made rest counts numbers i place k lt within here h e =
    let size = h.size in
    let a = h.so_far k here in
    let b = ap (λ (l : List Row). count_at sizes l k) (rows_from-suffix w rest counts i lt) in
    elim (cases_eq place k) [
      | inl same ↦
          let c = count_at-here sizes (record { cell = take w rest; count = get_or counts i 0 }) (rows_from w (drop w rest) (drop (i + 1) counts)) k
          (e ∙ same) in
          let d = ap (λ j. get_or (set made place (get_or made place 0 + get_or counts i 0)) j 0) (sym same)
          ∙ get_or-set_same made place (get_or made place 0 + get_or counts i 0) 0 (omega (arith, size)) in
          let f = ap (λ j. get_or made j 0) same in
          omega (arith, a, b, c, d, f)
      | inr other ↦
          let c = count_at-there sizes (record { cell = take w rest; count = get_or counts i 0 }) (rows_from w (drop w rest) (drop (i + 1) counts)) k
          (λ q. other (sym e ∙ q)) in
          let d = get_or-set_other made place k (get_or made place 0 + get_or counts i 0) 0 (λ q. other (sym q)) in
          omega (arith, a, b, c, d)
    ]

rest-after : (w : ℕ) (xs : List ℕ) → take (length xs - w) (drop w xs) ≡ drop w xs
rest-after w xs = take_all (length xs - w) (drop w xs) (let d = length-drop w xs in omega (arith, d))

filling-next : (sizes : List ℕ) (cells w : ℕ) (made rest counts numbers after : List ℕ) (i place : ℕ) → i < length counts → place < cells
    → IsFilling sizes cells w made rest counts numbers i
    → place_of sizes (take w rest) ≡ place → after ≡ set made place (get_or made place 0 + get_or counts i 0)
    → IsFilling sizes cells w after (drop w rest) counts numbers (i + 1)
filling-next sizes cells w made rest counts numbers after i place lt within h e made_is =
    let long = h.long in
    let enough = filling-long sizes cells w made rest counts numbers i lt h in
    record {
      size = ap (λ (l : List ℕ). length l) made_is ∙ length-set made place (get_or made place 0 + get_or counts i 0) ∙ h.size;
      long = (
          let q : w * (length counts - i) ≡ w * suc (length counts - (i + 1)) =
          ap (λ k. w * k) (let s : length counts - i ≡ suc (length counts - (i + 1)) = omega arith in s) in
          let d = length-drop w rest in
          omega (arith, q, long, d));
      each = All-tail (λ (r : Row). IsCell sizes r.cell) (record { cell = take w rest; count = get_or counts i 0 })
          (rows_from w (drop w rest) (drop (i + 1) counts))
          (subst (λ (l : List Row). All (λ (r : Row). IsCell sizes r.cell) l) (rows_from-suffix w rest counts i lt) h.each);
      so_far = λ k here. ap (λ (l : List ℕ). get_or l k 0 + count_at sizes (rows_from w (drop w rest) (drop (i + 1) counts)) k) made_is
          ∙ filled_at sizes cells w made rest counts numbers i place k lt within here h e;
    }

pub filling-more : (sizes : List ℕ) (cells w : ℕ) (made rest counts numbers after : List ℕ) (i place : ℕ) → i < length counts → place < cells
    → IsFilling sizes cells w made rest counts numbers i
    → place_of sizes (take w rest) ≡ place → after ≡ set made place (get_or made place 0 + get_or counts i 0)
    → IsFilling sizes cells w after (take (length rest - w) (drop w rest)) counts numbers (i + 1)
filling-more sizes cells w made rest counts numbers after i place lt within h e made_is =
    rw (rest-after w rest) (filling-next sizes cells w made rest counts numbers after i place lt within h e made_is)

pub filling-end : (sizes : List ℕ) (cells w : ℕ) (made rest counts numbers : List ℕ) (i : ℕ) → length counts ≤ i
    → IsFilling sizes cells w made rest counts numbers i
    → (k : ℕ) → k < cells → get_or made k 0 ≡ count_at sizes (rows_from w numbers counts) k
unfolding rows_from
filling-end sizes cells w made rest counts numbers i le h k lt =
    let none = ap (λ (l : List ℕ). count_at sizes (rows_from w rest l) k) (drop_of_length-le counts le) in
    let a = h.so_far k lt in
    omega (arith, a, none)

-- the rows of a table whose cells stand one behind the other
pub rows_from-all : (w : ℕ) (rows : List Row) → All (λ (r : Row). length r.cell ≡ w) rows
    → rows_from w (flat_map (λ (r : Row). r.cell) rows) (map (λ (r : Row). r.count) rows) ≡ rows
unfolding rows_from
rows_from-all w [] h = refl
rows_from-all w (r ∷ rows) h =
    let same = All-head (λ (x : Row). length x.cell ≡ w) r rows h in
    ap (λ (c : List ℕ). record { cell = c; count = r.count } ∷ rows_from w (drop w (r.cell ++ flat_map (λ (x : Row). x.cell) rows))
    (map (λ (x : Row). x.count) rows))
    (ap (λ k. take k (r.cell ++ flat_map (λ (x : Row). x.cell) rows)) (sym same) ∙ take-append_seam r.cell (flat_map (λ (x : Row). x.cell) rows))
    ∙ ap (λ (l : List ℕ). r ∷ rows_from w l (map (λ (x : Row). x.count) rows))
    (ap (λ k. drop k (r.cell ++ flat_map (λ (x : Row). x.cell) rows)) (sym same) ∙ drop-append_seam r.cell (flat_map (λ (x : Row). x.cell) rows))
    ∙ ap (λ (l : List Row). r ∷ l) (rows_from-all w rows (All-tail (λ (x : Row). length x.cell ≡ w) r rows h))
