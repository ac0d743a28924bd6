-- Places of cells in mixed radix: from a cell to its place, and back.
use Rattle.std.proofs.Common.{ℕ, zero, suc, ◌+◌, ◌*◌, ◌/◌, ◌%◌, ◌≡◌, ◌≢◌, ◌<◌, ◌≤◌, List, [], ◌∷◌, length}
use Rattle.std.proofs.Common.{get_or, set, map, drop, All, sym, ap, subst, ◌∙◌, arith, drop_of_length-le, inl, inr, replicate, length-set}
use Rattle.std.specs.List.{AllPairs}
use Rattle.std.proofs.lemmas.Bool.{cases_lt}
use Rattle.std.proofs.lemmas.List.{get_or-set_same, get_or-set_other, get_or-map, get_or-replicate, get_or_past, length-map, length-replicate}
use Rattle.std.proofs.lemmas.List.Elements.{All-weaker}
use Rattle.std.proofs.lemmas.Nat.{mul-le}
use Rattle.count_rows.specs.Vocabulary.{product}
use Rattle.count_table.specs.Cells.{place_of, IsCell, cells_of}
use Rattle.count_table.proofs.CellLists.{place_of-lt, cell_at_place}
use Rattle.count_table.proofs.TableSteps.{suffix}
use Rattle.count_table.proofs.Lists.{map-same, later}

-- cells with one place are one cell
pub same_place : (ns xs ys : List ℕ) → IsCell ns xs → IsCell ns ys → place_of ns xs ≡ place_of ns ys → xs ≡ ys
same_place ns xs ys h k e = sym (cell_at_place ns xs [] h) ∙ ap (λ i. get_or (cells_of ns) i []) e ∙ cell_at_place ns ys [] k

horner : (place n x p r : ℕ) → place * (n * p) + (x * p + r) ≡ (place * n + x) * p + r
horner place n x p r = grind arith

-- ---- from a cell to its place

-- the rest of a cell, of the place t as a whole, of which the levels before i come to `place`
pub record IsPlacing (sizes xs : List ℕ) (i place t : ℕ) : Type 0 where
  pub rest : IsCell (drop i sizes) (drop i xs)
  pub whole : place * product (drop i sizes) + place_of (drop i sizes) (drop i xs) ≡ t

-- what the next level does
pub record IsPlacedNext (sizes xs : List ℕ) (i place t : ℕ) : Type 0 where
  pub fits : place ≤ t
  pub more : IsPlacing sizes xs (i + 1) place t

placing_step : (n x : ℕ) (ns xs : List ℕ) (place t : ℕ) → IsCell (n ∷ ns) (x ∷ xs) → place * product (n ∷ ns) + place_of (n ∷ ns) (x ∷ xs) ≡ t
    → (place * n + x ≤ t) × ((place * n + x) * product ns + place_of ns xs ≡ t)
unfolding place_of
placing_step n x ns xs place t h w =
    let sum : (place * n + x) * product ns + place_of ns xs ≡ t = sym (horner place n x (product ns) (place_of ns xs)) ∙ w in
    let some = place_of-lt ns xs h.1 in
    let m : (place * n + x) * 1 ≤ (place * n + x) * product ns = mul-le (place * n + x) 1 (place * n + x) (product ns) (omega arith) (omega (arith, some)) in
    (omega (arith, m, sum), sum)

pub placing_start : (sizes xs : List ℕ) → IsCell sizes xs → IsPlacing sizes xs 0 0 (place_of sizes xs)
placing_start sizes xs h = record { rest = h; whole = omega arith }

placing_more : (sizes xs : List ℕ) (i place t : ℕ) → i < length sizes → i < length xs → IsPlacing sizes xs i place t
    → IsPlacedNext sizes xs i (place * get_or sizes i 0 + get_or xs i 0) t
placing_more sizes xs i place t lt less h =
    let front = suffix sizes i 0 lt in
    let first = suffix xs i 0 less in
    let rest = let P : List ℕ → List ℕ → Type 0 = λ l c. IsCell l c in subst (λ (c : List ℕ). P (get_or sizes i 0 ∷ drop (i + 1) sizes) c) first (subst
    (λ (l : List ℕ). P l (drop i xs)) front h.rest) in
    let whole = (ap (λ (l : List ℕ). place * product l + place_of l (get_or xs i 0 ∷ drop (i + 1) xs)) (sym front)
    ∙ ap (λ (c : List ℕ). place * product (drop i sizes) + place_of (drop i sizes) c) (sym first) ∙ h.whole) in
    let (fits, more) = placing_step (get_or sizes i 0) (get_or xs i 0) (drop (i + 1) sizes) (drop (i + 1) xs) place t rest whole in
    record { fits = fits; more = record { rest = rest.1; whole = more } }

-- the next level, read from the assignment
pub placing_next : (vertices sizes at : List ℕ) (i place t n v : ℕ) → i < length vertices → length sizes ≡ length vertices → n ≡ get_or sizes i 0 → v
    ≡ get_or vertices i 0
    → IsPlacing sizes (map (λ u. get_or at u 0) vertices) i place t → IsPlacedNext sizes (map (λ u. get_or at u 0) vertices) i (place * n + get_or at v 0) t
placing_next vertices sizes at i place t n v lt same size vertex h =
    let xs = map (λ u. get_or at u 0) vertices in
    let long = length-map vertices (λ u. get_or at u 0) in
    let more = placing_more sizes xs i place t (omega (arith, lt, same)) (omega (arith, lt, long)) h in
    let level : get_or at v 0 ≡ get_or xs i 0 = ap (λ u. get_or at u 0) vertex ∙ sym (get_or-map (λ u. get_or at u 0) vertices i 0 0 lt) in
    let e : place * n + get_or at v 0 ≡ place * get_or sizes i 0 + get_or xs i 0 = ap (λ m. place * m + get_or at v 0) size
    ∙ ap (λ m. place * get_or sizes i 0 + m) level in
    subst (λ p. IsPlacedNext sizes xs i p t) (sym e) more

pub placing_end : (sizes xs : List ℕ) (i place t : ℕ) → length sizes ≤ i → length xs ≤ i → IsPlacing sizes xs i place t → place ≡ t
unfolding place_of
placing_end sizes xs i place t le less h =
    let w = h.whole in
    let e : place * product (drop i sizes) + place_of (drop i sizes) (drop i xs) ≡ place * 1 + 0 =
    ap (λ (l : List ℕ). place * product l + place_of l (drop i xs)) (drop_of_length-le sizes le) in
    omega (arith, e, w)

-- ---- from a place to its cell

-- the place t as a whole: `rest` are the levels before i, and the cell has those from i on, and 0 where it has no level
pub record IsUnplacing (vertices sizes cell : List ℕ) (i rest t : ℕ) : Type 0 where
  pub long : length cell ≡ 64
  pub within : i ≤ length vertices
  pub whole : rest * product (drop i sizes) + place_of (drop i sizes) (map (λ v. get_or cell v 0) (drop i vertices)) ≡ t
  pub levels : IsCell (drop i sizes) (map (λ v. get_or cell v 0) (drop i vertices))
  pub outside : (v : ℕ) → All (λ u. u ≢ v) vertices → get_or cell v 0 ≡ 0

blank : (n v : ℕ) → ◌≡◌ {A = ℕ} (get_or {A = ℕ} (replicate n 0) v 0) 0
blank n v = elim (cases_lt v n) [
  | inl lt ↦ get_or-replicate n v 0 0 lt
  | inr le ↦ get_or_past (replicate n 0) v 0 (let e = length-replicate {A = ℕ} n 0 in omega (arith, e, le))
]

pub unplacing_start : (vertices sizes cell : List ℕ) (i t : ℕ) → cell ≡ replicate 64 0 → i ≡ length vertices → length sizes ≡ length vertices
    → IsUnplacing vertices sizes cell i t t
unfolding place_of
unplacing_start vertices sizes cell i t made e same =
    let a : drop i vertices ≡ [] = drop_of_length-le vertices (let q : length vertices ≤ i = omega arith in q) in
    let b : drop i sizes ≡ [] = drop_of_length-le sizes (let q : length sizes ≤ i = omega arith in q) in
    record {
      long = ap (λ (l : List ℕ). length l) made ∙ length-replicate {A = ℕ} 64 0;
      within = omega arith;
      whole = ap (λ (l : List ℕ). t * product l + place_of l (map (λ v. get_or cell v 0) (drop i vertices))) b ∙ omega arith;
      levels = let P : List ℕ → List ℕ → Type 0 = λ l c. IsCell l (map (λ v. get_or cell v 0) c) in subst (λ (c : List ℕ). P (drop i sizes) c) (sym a) (subst
          (λ (l : List ℕ). P l []) (sym b) tt);
      outside = λ v none. ap (λ (l : List ℕ). get_or l v 0) made ∙ blank 64 v;
    }

division : (rest n p q : ℕ) → 0 < n → (rest / n) * (n * p) + ((rest % n) * p + q) ≡ rest * p + q
division rest n p q pos =
    horner (rest / n) n (rest % n) p q ∙ ap (λ k. k * p + q) (let e : (rest / n) * n + rest % n ≡ rest = omega arith in e)

-- the levels from j on, once that of the vertex j is written
levels_from : (vertices cell : List ℕ) (j x : ℕ) → j < length vertices → All (λ v. v < length cell) vertices → AllPairs (λ a b. a < b) vertices
    → map (λ v. get_or (set cell (get_or vertices j 0) x) v 0) (drop j vertices) ≡ x ∷ map (λ v. get_or cell v 0) (drop (j + 1) vertices)
levels_from vertices cell j x lt inside ascending =
    let v = get_or vertices j 0 in
    ap (map (λ u. get_or (set cell v x) u 0)) (suffix vertices j 0 lt)
    ∙ ap (λ n. n ∷ map (λ u. get_or (set cell v x) u 0) (drop (j + 1) vertices)) (get_or-set_same cell v x 0 (inside j 0 lt))
    ∙ ap (λ (l : List ℕ). x ∷ l) (map-same (λ u. get_or (set cell v x) u 0) (λ u. get_or cell u 0) (drop (j + 1) vertices)
    (All-weaker (λ u. u ≢ v) (λ u. get_or (set cell v x) u 0 ≡ get_or cell u 0) (λ u ne. get_or-set_other cell v u x 0 ne) (drop (j + 1) vertices)
    (later vertices j lt ascending)))

pub unplacing_more : (vertices sizes cell : List ℕ) (i j n rest t : ℕ) → i ≡ j + 1 → length sizes ≡ length vertices → All (λ v. v < 64) vertices
    → AllPairs (λ a b. a < b) vertices → n ≡ get_or sizes j 0 → 0 < n → IsUnplacing vertices sizes cell i rest t
    → IsUnplacing vertices sizes (set cell (get_or vertices j 0) (rest % n)) j (rest / n) t
unfolding place_of
unplacing_more vertices sizes cell i j n rest t step same below ascending size pos h =
    let long = h.long in
    let within = h.within in
    let lt : j < length vertices = omega (arith, step, within) in
    let inside : All (λ v. v < length cell) vertices = λ k d less. (let b = below k d less in omega (arith, b, long)) in
    let x = rest % n in
    let back = subst (λ k. IsUnplacing vertices sizes cell k rest t) step h in
    let ns = drop (j + 1) sizes in
    let xs = map (λ v. get_or cell v 0) (drop (j + 1) vertices) in
    let e = levels_from vertices cell j x lt inside ascending in
    let f : drop j sizes ≡ n ∷ ns = suffix sizes j 0 (omega arith) ∙ ap (λ k. k ∷ ns) (sym size) in
    let less : x < n = omega arith in
    record {
      long = length-set cell (get_or vertices j 0) x ∙ long;
      within = omega (arith, lt);
      whole = (ap (λ (l : List ℕ). (rest / n) * product l + place_of l (map (λ v. get_or (set cell (get_or vertices j 0) x) v 0) (drop j vertices))) f
          ∙ ap (λ (l : List ℕ). (rest / n) * product (n ∷ ns) + place_of (n ∷ ns) l) e ∙ division rest n (product ns) (place_of ns xs) pos ∙ back.whole);
      levels = let P : List ℕ → List ℕ → Type 0 = λ l c. IsCell l c in
          subst (λ (c : List ℕ). P (drop j sizes) c) (sym e) (subst (λ (l : List ℕ). P l (x ∷ xs)) (sym f) (less, back.levels));
      outside = λ v none. get_or-set_other cell (get_or vertices j 0) v x 0 (λ q. none j 0 lt (sym q)) ∙ back.outside v none;
    }

-- nothing is left once all levels are written
pub unplacing_end : (vertices sizes cell : List ℕ) (i rest t : ℕ) → i ≤ 0 → t < product sizes → IsUnplacing vertices sizes cell i rest t
    → (place_of sizes (map (λ v. get_or cell v 0) vertices) ≡ t) × IsCell sizes (map (λ v. get_or cell v 0) vertices)
unplacing_end vertices sizes cell i rest t le lt h =
    let back = subst (λ k. IsUnplacing vertices sizes cell k rest t) (let q : i ≡ 0 = omega arith in q) h in
    let w = back.whole in
    let none = nothing rest (product sizes) (place_of sizes (map (λ v. get_or cell v 0) vertices)) t w lt in
    (none, back.levels)
  where
    nothing : (r p q s : ℕ) → r * p + q ≡ s → s < p → q ≡ s
    nothing zero p q s e less = omega (arith, e)
    nothing (suc r) p q s e less = absurd (let m : 1 * p ≤ suc r * p = mul-le 1 p (suc r) p (omega arith) (omega arith) in omega (arith, m, e, less))
