-- Summing a table over one vertex after the other.
use Rattle.std.proofs.Common.{ℕ, zero, suc, ◌+◌, ◌*◌, ◌≡◌, ◌≢◌, ◌<◌, Bool, true, false, ◌||◌, eqb, List, [], ◌∷◌, ◌++◌, length, get_or, map, All}
use Rattle.std.proofs.Common.{refl, sym, ap, subst, ◌∙◌, arith, sum}
use Rattle.std.proofs.lemmas.Bool.{eq-eqb}
use Rattle.std.proofs.lemmas.List.{get_or-map, length-map, map-append, take_all}
use Rattle.std.proofs.lemmas.List.Elements.{All-nil, All-cons, All-append}
use Rattle.std.proofs.lemmas.List.Sums.{sum-map}
use Rattle.count_table.specs.LaneSums.{sum_below, axis_total}
use Rattle.count_table.proofs.LaneLaws.{index_sum, sum_below-add}
use Rattle.count_rows.specs.Vocabulary.{Field, product, Row, Table, counted}
use Rattle.count_table.specs.Cells.{place_of, IsCell, cells_of, sizes_of, total}
use Rattle.count_table.specs.Tables.{AreCounts}
use Rattle.count_table.proofs.CellLists.{place_of-lt, length-cells_of, cells_of-are}
use Rattle.count_table.proofs.TableSteps.{IsCell-length}
use Rattle.count_table.proofs.Lists.{map-same, product-append}
use Rattle.count_table.proofs.Choosing.{size_in, size-at, sizes-all}
use Rattle.count_table.proofs.Counting.{is_among, put_level, put-same, put-other, among-more, among-none, counted-over, IsWith, HasLevel, sum-same}
use Rattle.count_table.proofs.Counting.{sum-zero, sum-plus}
use Rattle.count_table.proofs.SumCells.{place_of-append, IsCell-append, IsCell-split, IsCell-at, counted-all}

-- ---- sums of blocks

blocks : (m n : ℕ) (f : ℕ → ℕ) → sum_below (m * n) f ≡ sum_below m (λ a. sum_below n (λ b. f (a * n + b)))
blocks zero n f = ap (λ k. sum_below k f) (let e : zero * n ≡ zero = omega arith in e)
blocks (suc m) n f =
    let e = ap (λ k. sum_below k f) (let q : suc m * n ≡ m * n + n = omega arith in q) in
    let s = sum_below-add (m * n) n f in
    let ih = blocks m n f in
    omega (arith, e, s, ih)

turned : (m n : ℕ) (f : ℕ → ℕ → ℕ) → sum_below m (λ a. sum_below n (λ b. f a b)) ≡ sum_below n (λ b. sum_below m (λ a. f a b))
turned zero n f = sym (sum-zero n (λ b. 0) (λ i lt. refl))
turned (suc m) n f =
    ap (λ k. k + sum_below n (λ b. f m b)) (turned m n f) ∙ sym (sum-plus n (λ b. sum_below m (λ a. f a b)) (λ b. f m b))

all_sum : (xs : List ℕ) (n : ℕ) → length xs ≡ n → sum xs ≡ sum_below n (λ i. get_or xs i 0)
all_sum xs n e = ap sum (sym (take_all n xs (omega (arith, e)))) ∙ sym (index_sum n xs (omega (arith, e)))

-- summing over an axis keeps the sum of all
pub axis-total : (outer axis inner : ℕ) (cells into : List ℕ) → length cells ≡ outer * axis * inner → length into ≡ outer * inner
    → ((o i : ℕ) → o < outer → i < inner → get_or into (o * inner + i) 0 ≡ axis_total axis inner o i cells) → sum into ≡ sum cells
axis-total outer axis inner cells into long short each =
    let f : ℕ → ℕ = λ j. get_or cells j 0 in
    all_sum into (outer * inner) short ∙ blocks outer inner (λ j. get_or into j 0)
    ∙ sum-same outer (λ o. sum_below inner (λ i. get_or into (o * inner + i) 0))
    (λ o. sum_below axis (λ a. sum_below inner (λ i. f ((o * axis + a) * inner + i))))
    (λ o lo. sum-same inner (λ i. get_or into (o * inner + i) 0) (λ i. axis_total axis inner o i cells) (λ i li. each o i lo li)
    ∙ turned inner axis (λ i a. f ((o * axis + a) * inner + i)))
    ∙ sym (blocks outer axis (λ q. sum_below inner (λ i. f (q * inner + i))))
    ∙ sym (blocks (outer * axis) inner f)
    ∙ sym (all_sum cells (outer * axis * inner) long)

-- ---- sums for the cells of some vertices

-- the sums of a table's counts for each cell of these vertices
pub record AreSumsOver (t : Table) (us sums : List ℕ) : Type 0 where
  pub long : length sums ≡ product (map (size_in t) us)
  pub each : (at : ℕ → ℕ) → IsCell (map (size_in t) us) (map at us) → get_or sums (place_of (map (size_in t) us) (map at us)) 0
      ≡ counted t.vertices t.rows (is_among us) at
  pub total : sum sums ≡ total t.rows

-- each number of a list is among its numbers
pub among-self : (vs : List ℕ) → All (λ v. is_among vs v ≡ true) vs
among-self [] = All-nil (λ v. is_among [] v ≡ true)
among-self (v ∷ vs) =
    All-cons (λ u. is_among (v ∷ vs) u ≡ true) v vs (ap (λ b. b || is_among vs v) (eq-eqb v v refl))
    (λ i d lt. ap (λ b. eqb (get_or vs i d) v || b) (among-self vs i d lt) ∙ always (eqb (get_or vs i d) v))
  where
    always : (b : Bool) → (b || true) ≡ true
    always true = refl
    always false = refl

row-cells : (t : Table) → AreCounts t → (j : ℕ) (e : Row) → j < length t.rows → (get_or t.rows j e).cell ≡ get_or (cells_of (sizes_of t.levels)) j []
row-cells t are j e lt =
    sym (get_or-map (λ (r : Row). r.cell) t.rows j e [] lt) ∙ ap (λ (l : List (List ℕ)). get_or l j []) are.cells

row-count : (t : Table) → AreCounts t → length t.rows ≡ product (sizes_of t.levels)
row-count t are = sym (length-map t.rows (λ (r : Row). r.cell)) ∙ ap (λ (l : List (List ℕ)). length l) are.cells ∙ length-cells_of (sizes_of t.levels)

widths : (t : Table) → AreCounts t → length (sizes_of t.levels) ≡ length t.vertices
widths t are = length-map t.levels (λ (ys : List Field). length ys) ∙ are.matched

cell-width : (t : Table) → AreCounts t → (j : ℕ) → j < product (sizes_of t.levels) → length (get_or (cells_of (sizes_of t.levels)) j []) ≡ length t.vertices
cell-width t are j lt =
    IsCell-length (sizes_of t.levels) (get_or (cells_of (sizes_of t.levels)) j []) (cells_of-are (sizes_of t.levels) j []
    (let e = length-cells_of (sizes_of t.levels) in omega (arith, e, lt))) ∙ widths t are

-- the counts of a table are its sums over all vertices
pub counts-are : (t : Table) (counts : List ℕ) → AreCounts t → counts ≡ map (λ (r : Row). r.count) t.rows → AreSumsOver t t.vertices counts
counts-are t counts are e = record {
  long = ap (λ (l : List ℕ). length l) e ∙ length-map t.rows (λ (r : Row). r.count) ∙ row-count t are ∙ ap product (sym (sizes-all t are));
  each = λ at h. (let cell = subst (λ (l : List ℕ). IsCell l (map at t.vertices)) (sizes-all t are) h in
      let p = place_of (sizes_of t.levels) (map at t.vertices) in
      let within = place_of-lt (sizes_of t.levels) (map at t.vertices) cell in
      let many = row-count t are in
      let none : Row = record { cell = []; count = 0 } in
      ap (λ (l : List ℕ). get_or counts (place_of l (map at t.vertices)) 0) (sizes-all t are)
      ∙ ap (λ (l : List ℕ). get_or l p 0) e ∙ get_or-map (λ (r : Row). r.count) t.rows p none 0 (omega (arith, within, many))
      ∙ sym (counted-all t.vertices (sizes_of t.levels) t.rows (is_among t.vertices) at none (widths t are) many
      (λ j d lt. row-cells t are j d (omega (arith, lt, many))) (λ j lt. cell-width t are j lt) (among-self t.vertices) cell));
  total = ap sum e ∙ sum-map (λ (r : Row). r.count) t.rows;
}

-- each row of a table has one of the levels of the vertex at place i
pub row-levels : (t : Table) → AreCounts t → (i : ℕ) → i < length t.vertices → All (HasLevel (length t.vertices) i (size_in t (get_or t.vertices i 0))) t.rows
row-levels t are i lt j d less =
    let many = row-count t are in
    let within : j < product (sizes_of t.levels) = omega (arith, less, many) in
    let cell = row-cells t are j d less in
    let wide = widths t are in
    let below = IsCell-at (sizes_of t.levels) (get_or (cells_of (sizes_of t.levels)) j []) i
    (cells_of-are (sizes_of t.levels) j [] (let e = length-cells_of (sizes_of t.levels) in omega (arith, e, within))) (omega (arith, wide, lt)) in
    let size = size-at t are i lt in
    let matched = are.matched in
    let here = get_or-map (λ (ys : List Field). length ys) t.levels i [] 0 (omega (arith, lt, matched)) in
    let same = ap (λ (l : List ℕ). get_or l i 0) cell in
    record { long = ap (λ (l : List ℕ). length l) cell ∙ cell-width t are j within; below = omega (arith, below, size, here, same) }

-- the vertices before v and behind it, none of which is v
pub record IsSplit (t : Table) (ks rest : List ℕ) (v i : ℕ) : Type 0 where
  pub within : i < length t.vertices
  pub here : get_or t.vertices i 0 ≡ v
  pub before : All (λ u. u ≢ v) ks
  pub behind : All (λ u. u ≢ v) rest

split-with : (t : Table) (ks rest : List ℕ) (v i : ℕ) → IsSplit t ks rest v i → IsWith (is_among (ks ++ v ∷ rest)) (is_among (ks ++ rest)) v
split-with t ks rest v i h = record {
  with = λ u. among-more ks rest v u;
  without = among-none (ks ++ rest) v (All-append (λ u. u ≢ v) ks rest h.before h.behind);
}

kept-cell : (at : ℕ → ℕ) (v a : ℕ) (us : List ℕ) → All (λ u. u ≢ v) us → map (put_level at v a) us ≡ map at us
kept-cell at v a us none = map-same (put_level at v a) at us (λ i d lt. put-other at v a (get_or us i d) (none i d lt))

regroup : (o n p a i : ℕ) → o * (n * p) + (a * p + i) ≡ (o * n + a) * p + i
regroup o n p a i = grind arith

-- the cell with one level more
record IsMore (t : Table) (ks rest : List ℕ) (v a : ℕ) (at : ℕ → ℕ) : Type 0 where
  cell : IsCell (map (size_in t) (ks ++ v ∷ rest)) (map (put_level at v a) (ks ++ v ∷ rest))
  place : place_of (map (size_in t) (ks ++ v ∷ rest)) (map (put_level at v a) (ks ++ v ∷ rest))
      ≡ (place_of (map (size_in t) ks) (map at ks) * size_in t v + a) * product (map (size_in t) rest) + place_of (map (size_in t) rest) (map at rest)

more_cell : (t : Table) (ks rest : List ℕ) (v a i : ℕ) (at : ℕ → ℕ) → IsSplit t ks rest v i → a < size_in t v → IsCell (map (size_in t) ks) (map at ks)
    → IsCell (map (size_in t) rest) (map at rest)
    → IsMore t ks rest v a at
unfolding place_of
more_cell t ks rest v a i at h lt front back =
    let f : ℕ → ℕ = size_in t in
    let sizes : map f (ks ++ v ∷ rest) ≡ map f ks ++ f v ∷ map f rest = map-append f ks (v ∷ rest) in
    let levels : map (put_level at v a) (ks ++ v ∷ rest) ≡ map at ks ++ a ∷ map at rest =
    (map-append (put_level at v a) ks (v ∷ rest) ∙ ap (λ (l : List ℕ). l ++ map (put_level at v a) (v ∷ rest)) (kept-cell at v a ks h.before)
    ∙ ap (λ n. map at ks ++ n ∷ map (put_level at v a) rest) (put-same at v a) ∙ ap (λ (l : List ℕ). map at ks ++ a ∷ l) (kept-cell at v a rest h.behind)) in
    let P : List ℕ → List ℕ → Type 0 = λ ns xs. IsCell ns xs in
    record {
      cell = subst (λ (l : List ℕ). P (map f (ks ++ v ∷ rest)) l) (sym levels) (subst (λ (l : List ℕ). P l (map at ks ++ a ∷ map at rest)) (sym sizes)
          (IsCell-append (map f ks) (f v ∷ map f rest) (map at ks) (a ∷ map at rest) front (lt, back)));
      place = (ap (λ (l : List ℕ). place_of l (map (put_level at v a) (ks ++ v ∷ rest))) sizes ∙ ap (place_of (map f ks ++ f v ∷ map f rest)) levels
          ∙ place_of-append (map f ks) (f v ∷ map f rest) (map at ks) (a ∷ map at rest) front
          ∙ regroup (place_of (map f ks) (map at ks)) (f v) (product (map f rest)) a (place_of (map f rest) (map at rest)));
    }

pub record IsWithout (t : Table) (ks rest : List ℕ) (v : ℕ) (sums into : List ℕ) : Type 0 where
  pub short : length into ≡ product (map (size_in t) ks) * product (map (size_in t) rest)
  pub each : (o i : ℕ) → o < product (map (size_in t) ks) → i < product (map (size_in t) rest)
      → get_or into (o * product (map (size_in t) rest) + i) 0 ≡ axis_total (size_in t v) (product (map (size_in t) rest)) o i sums

pub split-long : (t : Table) (ks rest : List ℕ) (v : ℕ) (sums : List ℕ) → AreSumsOver t (ks ++ v ∷ rest) sums
    → length sums ≡ product (map (size_in t) ks) * size_in t v * product (map (size_in t) rest)
split-long t ks rest v sums h =
    h.long ∙ ap product (map-append (size_in t) ks (v ∷ rest)) ∙ product-append (map (size_in t) ks) (size_in t v ∷ map (size_in t) rest)
    ∙ assoc (product (map (size_in t) ks)) (size_in t v) (product (map (size_in t) rest))
  where
    assoc : (a b c : ℕ) → a * (b * c) ≡ a * b * c
    assoc a b c = grind arith

-- summed over one vertex
pub summed_over : (t : Table) (ks rest : List ℕ) (v i : ℕ) (sums into : List ℕ) → AreCounts t → IsSplit t ks rest v i → AreSumsOver t (ks ++ v ∷ rest) sums
    → IsWithout t ks rest v sums into
    → AreSumsOver t (ks ++ rest) into
summed_over t ks rest v i sums into are split h w =
    let f : ℕ → ℕ = size_in t in
    record {
      long = w.short ∙ sym (ap product (map-append f ks rest) ∙ product-append (map f ks) (map f rest));
      each = λ at cell. step at cell;
      total = axis-total (product (map f ks)) (f v) (product (map f rest)) sums into (split-long t ks rest v sums h) w.short w.each ∙ h.total;
    }
  where
    halves : (at : ℕ → ℕ) → IsCell (map (size_in t) (ks ++ rest)) (map at (ks ++ rest)) → IsCell (map (size_in t) ks) (map at ks)
        × IsCell (map (size_in t) rest) (map at rest)
    halves at cell =
        let P : List ℕ → List ℕ → Type 0 = λ ns xs. IsCell ns xs in
        IsCell-split (map (size_in t) ks) (map (size_in t) rest) (map at ks) (map at rest) (length-map ks at ∙ sym (length-map ks (size_in t)))
        (subst (λ (l : List ℕ). P (map (size_in t) ks ++ map (size_in t) rest) l) (map-append at ks rest) (subst (λ (l : List ℕ). P l (map at (ks ++ rest)))
        (map-append (size_in t) ks rest) cell))

    step : (at : ℕ → ℕ) → IsCell (map (size_in t) (ks ++ rest)) (map at (ks ++ rest))
        → get_or into (place_of (map (size_in t) (ks ++ rest)) (map at (ks ++ rest))) 0 ≡ counted t.vertices t.rows (is_among (ks ++ rest)) at
    step at cell =
        let f : ℕ → ℕ = size_in t in
        let (front, back) = halves at cell in
        let o = place_of (map f ks) (map at ks) in
        let j = place_of (map f rest) (map at rest) in
        let place : place_of (map f (ks ++ rest)) (map at (ks ++ rest)) ≡ o * product (map f rest) + j =
        ap (λ (l : List ℕ). place_of l (map at (ks ++ rest))) (map-append f ks rest) ∙ ap (place_of (map f ks ++ map f rest)) (map-append at ks rest)
        ∙ place_of-append (map f ks) (map f rest) (map at ks) (map at rest) front in
        let one : (a : ℕ) → a < f v → get_or sums ((o * f v + a) * product (map f rest) + j) 0
        ≡ counted t.vertices t.rows (is_among (ks ++ v ∷ rest)) (put_level at v a) =
        λ a lt. (let more = more_cell t ks rest v a i at split lt front back in ap (λ k. get_or sums k 0) (sym more.place)
        ∙ h.each (put_level at v a) more.cell) in
        ap (λ k. get_or into k 0) place
        ∙ w.each o j (place_of-lt (map f ks) (map at ks) front) (place_of-lt (map f rest) (map at rest) back)
        ∙ sum-same (f v) (λ a. get_or sums ((o * f v + a) * product (map f rest) + j) 0)
        (λ a. counted t.vertices t.rows (is_among (ks ++ v ∷ rest)) (put_level at v a)) one
        ∙ counted-over t.vertices t.rows (is_among (ks ++ v ∷ rest)) (is_among (ks ++ rest)) at v i (f v) (split-with t ks rest v i split)
        are.ascending split.within split.here
        (subst (λ u. All (HasLevel (length t.vertices) i (f u)) t.rows) split.here (row-levels t are i split.within))
