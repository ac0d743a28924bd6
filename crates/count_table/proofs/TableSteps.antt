-- Steps of the loops over the levels of a table.
use Rattle.std.proofs.Common.{ℕ, zero, suc, ◌+◌, ◌*◌, ◌-◌, ◌^◌, ◌≡◌, ◌<◌, ◌≤◌, Bool, true, false, cond, IsTrue, List, [], ◌∷◌, ◌++◌, length, get_or}
use Rattle.std.proofs.Common.{map, take, drop, All, refl, sym, ap, subst, ◌∙◌, arith, drop-cons, drop_of_length-le}
use Rattle.std.specs.List.{flat_map, range_with_len}
use Rattle.std.proofs.lemmas.List.{append-nil, get_or_read, take_all}
use Rattle.std.proofs.lemmas.List.Elements.{All-head, All-tail, All-map, All-weaker, All-drop}
use Rattle.std.proofs.lemmas.Grind.{flat_map-append}
use Rattle.std.proofs.lemmas.Nat.{mul-le}
use Rattle.count_rows.specs.Vocabulary.{Field, cell_count}
use Rattle.count_table.specs.Cells.{cells_of, sizes_of, place_of, IsCell}
use Rattle.count_table.specs.Codes.{room, code_of_cell, mask_under, code_under}
use Rattle.std.proofs.lemmas.Bool.{eq-eqb, ne_eqb}
use Rattle.count_table.specs.Tables.{levels_in}
use Rattle.count_table.proofs.CellLists.{place_of-lt, cells_of-are}
use Rattle.count_table.proofs.CodeLaws.{Sized, sized, rooms, rooms-small, AreBelow, code_of_cell-lt, mask_under-lt, code_under-lt, codes_step, codes_none}

-- the suffix from i on, when there is an element i
pub suffix : {X : Type 0} (xs : List X) (i : ℕ) (d : X) → i < length xs → drop i xs ≡ get_or xs i d ∷ drop (i + 1) xs
suffix xs i d lt = drop-cons xs i d lt ∙ ap (λ j. get_or xs i d ∷ drop j xs) (let e : suc i ≡ i + 1 = omega arith in e)

factor_le : (a b t : ℕ) → 0 < b → a * b ≡ t → a ≤ t
factor_le a b t pos e = let m : a * 1 ≤ a * b = mul-le a 1 a b (omega arith) pos in omega (arith, m, e)

-- ---- counting cells

pub cell_count-pos : (levels : List (List Field)) → All (λ (ys : List Field). 0 < length ys) levels → 0 < cell_count levels
cell_count-pos [] h = omega arith
cell_count-pos (ys ∷ levels) h =
    let m : 1 * 1 ≤ length ys * cell_count levels = mul-le 1 1 (length ys) (cell_count levels) (All-head (λ (zs : List Field). 0 < length zs) ys levels h)
    (cell_count-pos levels (All-tail (λ (zs : List Field). 0 < length zs) ys levels h)) in
    omega (arith, m)

regroup : (a b c : ℕ) → a * (b * c) ≡ (a * b) * c
regroup a b c = grind arith

pub count_more : (cells i t : ℕ) (levels : List (List Field)) → i < length levels → cells * cell_count (drop i levels) ≡ t
    → cells * length (get_or levels i []) * cell_count (drop (i + 1) levels) ≡ t
count_more cells i t levels lt e =
    sym (regroup cells (length (get_or levels i [])) (cell_count (drop (i + 1) levels)))
    ∙ ap (λ (l : List (List Field)). cells * cell_count l) (sym (suffix levels i [] lt)) ∙ e

pub count_fits : (cells i t : ℕ) (levels : List (List Field)) → i < length levels → All (λ (ys : List Field). 0 < length ys) levels
    → cells * cell_count (drop i levels) ≡ t
    → cells * length (get_or levels i []) ≤ t
count_fits cells i t levels lt pos e =
    factor_le (cells * length (get_or levels i [])) (cell_count (drop (i + 1) levels)) t
    (cell_count-pos (drop (i + 1) levels) (All-drop (λ (ys : List Field). 0 < length ys) (i + 1) levels pos))
    (count_more cells i t levels lt e)

-- ---- the place of a cell

-- a cell has one number for each vertex
pub IsCell-length : (ns xs : List ℕ) → IsCell ns xs → length xs ≡ length ns
IsCell-length [] [] h = refl
IsCell-length [] (x ∷ xs) h = absurd h
IsCell-length (n ∷ ns) [] h = absurd h
IsCell-length (n ∷ ns) (x ∷ xs) h = ap (λ k. suc k) (IsCell-length ns xs h.1)

horner : (place n x p r : ℕ) → place * (n * p) + (x * p + r) ≡ (place * n + x) * p + r
horner place n x p r = grind arith

-- the rest of a cell, of the place t as a whole, of which the numbers before i come to `place`
pub record IsPlaced (levels : List (List Field)) (cell : List ℕ) (i place t : ℕ) : Type 0 where
  pub rest : IsCell (sizes_of (drop i levels)) (drop i cell)
  pub whole : place * cell_count (drop i levels) + place_of (sizes_of (drop i levels)) (drop i cell) ≡ t

-- what the next number does
pub record IsPlacedMore (levels : List (List Field)) (cell : List ℕ) (i place t : ℕ) : Type 0 where
  pub fits : place * length (get_or levels i []) + get_or cell i 0 ≤ t
  pub more : IsPlaced levels cell (i + 1) (place * length (get_or levels i []) + get_or cell i 0) t

placed_step : (n x : ℕ) (levels : List (List Field)) (xs : List ℕ) (ys : List Field) (place t : ℕ) → length ys ≡ n → IsCell (sizes_of (ys ∷ levels)) (x ∷ xs)
    → place * cell_count (ys ∷ levels) + place_of (sizes_of (ys ∷ levels)) (x ∷ xs) ≡ t
    → (place * n + x ≤ t) × ((place * n + x) * cell_count levels + place_of (sizes_of levels) xs ≡ t)
unfolding place_of
placed_step n x levels xs ys place t e h w =
    let sum : (place * n + x) * cell_count levels + place_of (sizes_of levels) xs ≡ t =
    sym (horner place n x (cell_count levels) (place_of (sizes_of levels) xs))
    ∙ ap (λ k. place * (k * cell_count levels) + (x * cell_count levels + place_of (sizes_of levels) xs)) (sym e) ∙ w in
    let some = place_of-lt (sizes_of levels) xs h.1 in
    let m : (place * n + x) * 1 ≤ (place * n + x) * cell_count levels =
    mul-le (place * n + x) 1 (place * n + x) (cell_count levels) (omega arith) (omega (arith, some)) in
    (omega (arith, m, sum), sum)

pub place_more : (levels : List (List Field)) (cell : List ℕ) (i place t : ℕ) → i < length levels → i < length cell → IsPlaced levels cell i place t
    → IsPlacedMore levels cell i place t
place_more levels cell i place t lt less h =
    let front = suffix levels i [] lt in
    let first = suffix cell i 0 less in
    let rest = let P : List (List Field) → List ℕ → Type 0 = λ l c. IsCell (sizes_of l) c in
    subst (λ (c : List ℕ). P (get_or levels i [] ∷ drop (i + 1) levels) c) first (subst (λ (l : List (List Field)). P l (drop i cell)) front h.rest) in
    let whole = (ap (λ (l : List (List Field)). place * cell_count l + place_of (sizes_of l) (get_or cell i 0 ∷ drop (i + 1) cell)) (sym front)
    ∙ ap (λ (c : List ℕ). place * cell_count (drop i levels) + place_of (sizes_of (drop i levels)) c) (sym first) ∙ h.whole) in
    let (fits, more) = placed_step (length (get_or levels i [])) (get_or cell i 0) (drop (i + 1) levels) (drop (i + 1) cell) (get_or levels i [])
    place t refl rest whole in
    record { fits = fits; more = record { rest = rest.1; whole = more } }

-- ---- fields of codes

-- a code with one more field fits 64 bits
pub field_fits : (code r x : ℕ) → code < 2 ^ 40 → r ≤ 2 ^ 20 → x < 2 ^ 20 → code * r + x < 2 ^ 61
field_fits code r x hc hr hx = let m : code * r ≤ 2 ^ 40 * 2 ^ 20 = mul-le code r (2 ^ 40) (2 ^ 20) (omega arith) hr in omega (arith, m)

product-drop : (levels : List (List Field)) (j : ℕ) → All (λ (ys : List Field). 0 < length ys) levels → cell_count (drop j levels) ≤ cell_count levels
product-drop levels zero h = omega arith
product-drop [] (suc j) h = omega arith
product-drop (ys ∷ levels) (suc j) h =
    let less = product-drop levels j (All-tail (λ (zs : List Field). 0 < length zs) ys levels h) in
    let m : 1 * cell_count levels ≤ length ys * cell_count levels = mul-le 1 (cell_count levels) (length ys) (cell_count levels)
    (All-head (λ (zs : List Field). 0 < length zs) ys levels h) (omega arith) in
    omega (arith, less, m)

-- levels of which there are from 1 to 2 ^ 20 cells
pub record AreFew (levels : List (List Field)) : Type 0 where
  pub each : All (λ (ys : List Field). 0 < length ys) levels
  pub few : cell_count levels ≤ 2 ^ 20

pub few-drop : (levels : List (List Field)) (j : ℕ) → AreFew levels → AreFew (drop j levels)
few-drop levels j h = record {
  each = All-drop (λ (ys : List Field). 0 < length ys) j levels h.each;
  few = (let less = product-drop levels j h.each in let f = h.few in omega (arith, less, f));
}

sizes-pos : (levels : List (List Field)) → All (λ (ys : List Field). 0 < length ys) levels → All (λ n. 0 < n) (sizes_of levels)
sizes-pos levels h = All-map (λ n. 0 < n) (λ (ys : List Field). length ys) levels h

pub sized-few : (levels : List (List Field)) → AreFew levels → Sized (sizes_of levels)
sized-few levels h = sized (sizes_of levels) (sizes-pos levels h.each) h.few

pub rooms-few : (levels : List (List Field)) → AreFew levels → rooms (sizes_of levels) ≤ 2 ^ 40
rooms-few levels h = rooms-small (sizes_of levels) (sized-few levels h) h.few

pub codes-small : (levels : List (List Field)) → AreFew levels → All (λ code. code < 2 ^ 40) (map (code_of_cell (sizes_of levels)) (cells_of (sizes_of levels)))
codes-small levels h =
    let bound = rooms-few levels h in
    All-map (λ code. code < 2 ^ 40) (code_of_cell (sizes_of levels)) (cells_of (sizes_of levels))
    (All-weaker (IsCell (sizes_of levels)) (λ (c : List ℕ). code_of_cell (sizes_of levels) c < 2 ^ 40)
    (λ c cell. let b = code_of_cell-lt (sizes_of levels) c (sized-few levels h) cell in omega (arith, b, bound)) (cells_of (sizes_of levels))
    (cells_of-are (sizes_of levels)))

pub mask-small : (vs : List ℕ) (levels : List (List Field)) (of : ℕ → Bool) → AreFew levels → mask_under vs (sizes_of levels) of < 2 ^ 40
mask-small vs levels of h = let b = mask_under-lt vs (sizes_of levels) of in let bound = rooms-few levels h in omega (arith, b, bound)

pub code-small : (vs : List ℕ) (levels : List (List Field)) (of : ℕ → Bool) (at : ℕ → ℕ) → AreFew levels
    → AreBelow vs (sizes_of levels) of at → code_under vs (sizes_of levels) of at < 2 ^ 40
code-small vs levels of at h below = let b = code_under-lt vs (sizes_of levels) of at (sized-few levels h) below in let bound = rooms-few levels h in
    omega (arith, b, bound)

pub few-one : (levels : List (List Field)) (i : ℕ) → i < length levels → AreFew levels → (0 < length (get_or levels i []))
    × (length (get_or levels i []) ≤ 2 ^ 20)
few-one levels i lt h =
    let all = few-drop levels i h in
    let s = subst (λ (l : List (List Field)). Sized (sizes_of l)) (suffix levels i [] lt) (sized-few (drop i levels) all) in
    (s.0, s.1)

pub mask_more : (vs : List ℕ) (levels : List (List Field)) (of : ℕ → Bool) (i : ℕ) → i < length vs → i < length levels
    → mask_under (drop i vs) (sizes_of (drop i levels)) of
    ≡ mask_under (drop (i + 1) vs) (sizes_of (drop (i + 1) levels)) of * room (length (get_or levels i []))
    + cond (of (get_or vs i 0)) (room (length (get_or levels i [])) - 1) 0
unfolding mask_under
mask_more vs levels of i hv hl =
    ap (λ (l : List ℕ). mask_under l (sizes_of (drop i levels)) of) (suffix vs i 0 hv)
    ∙ ap (λ (l : List (List Field)). mask_under (get_or vs i 0 ∷ drop (i + 1) vs) (sizes_of l) of) (suffix levels i [] hl)

pub code_more : (vs : List ℕ) (levels : List (List Field)) (of : ℕ → Bool) (at : ℕ → ℕ) (i : ℕ) → i < length vs → i < length levels
    → code_under (drop i vs) (sizes_of (drop i levels)) of at
    ≡ code_under (drop (i + 1) vs) (sizes_of (drop (i + 1) levels)) of at * room (length (get_or levels i []))
    + cond (of (get_or vs i 0)) (at (get_or vs i 0)) 0
unfolding code_under
code_more vs levels of at i hv hl =
    ap (λ (l : List ℕ). code_under l (sizes_of (drop i levels)) of at) (suffix vs i 0 hv)
    ∙ ap (λ (l : List (List Field)). code_under (get_or vs i 0 ∷ drop (i + 1) vs) (sizes_of l) of at) (suffix levels i [] hl)

-- nothing is left behind the last vertex
pub mask_end : (vs : List ℕ) (levels : List (List Field)) (of : ℕ → Bool) (n : ℕ) → length vs ≤ n → mask_under (drop n vs) (sizes_of (drop n levels)) of ≡ 0
unfolding mask_under
mask_end vs levels of n h = ap (λ (l : List ℕ). mask_under l (sizes_of (drop n levels)) of) (drop_of_length-le vs h)

pub code_end : (vs : List ℕ) (levels : List (List Field)) (of : ℕ → Bool) (at : ℕ → ℕ) (n : ℕ) → length vs ≤ n
    → code_under (drop n vs) (sizes_of (drop n levels)) of at ≡ 0
unfolding code_under
code_end vs levels of at n h = ap (λ (l : List ℕ). code_under l (sizes_of (drop n levels)) of at) (drop_of_length-le vs h)

-- the values of the members of a set, by index
pub below_from : (vs ns : List ℕ) (of : ℕ → Bool) (at : ℕ → ℕ) → ((i : ℕ) → i < length vs → IsTrue (of (get_or vs i 0)) → at (get_or vs i 0) < get_or ns i 0)
    → AreBelow vs ns of at
below_from [] ns of at h = tt
below_from (v ∷ vs) [] of at h = tt
below_from (v ∷ vs) (n ∷ ns) of at h = (λ t. h 0 (omega arith) t, below_from vs ns of at (λ i lt t. h (suc i) (omega arith) t))

below-none : (vs : List ℕ) (of : ℕ → Bool) (at : ℕ → ℕ) → AreBelow vs [] of at
below-none [] of at = tt
below-none (v ∷ vs) of at = tt

pub below-drop : (vs : List ℕ) (levels : List (List Field)) (of : ℕ → Bool) (at : ℕ → ℕ) (j : ℕ)
    → AreBelow vs (sizes_of levels) of at → AreBelow (drop j vs) (sizes_of (drop j levels)) of at
below-drop vs levels of at zero h = h
below-drop [] levels of at (suc j) h = tt
below-drop (v ∷ vs) [] of at (suc j) h = below-none (drop j vs) of at
below-drop (v ∷ vs) (ys ∷ levels) of at (suc j) h = below-drop vs levels of at j h.1

-- ---- lists of codes

pub range-more : (a n : ℕ) → range_with_len a (n + 1) ≡ range_with_len a n ++ (a + n) ∷ []
range-more a zero = ap (λ (k : ℕ). k ∷ []) (let e : a ≡ a + 0 = omega arith in e)
range-more a (suc n) =
    ap (range_with_len a) (let e : suc n + 1 ≡ suc (n + 1) = omega arith in e)
    ∙ ap (λ (l : List ℕ). a ∷ l) (range-more (a + 1) n ∙ ap (λ k. range_with_len (a + 1) n ++ k ∷ []) (let e : a + 1 + n ≡ a + suc n = omega arith in e))

-- the codes of the level k, behind those of the levels before it
pub level-more : (f : ℕ → List ℕ) (k : ℕ) → flat_map f (range_with_len 0 (k + 1)) ≡ flat_map f (range_with_len 0 k) ++ f k
level-more f k =
    ap (flat_map f) (range-more 0 k) ∙ flat_map-append f (range_with_len 0 k) ((0 + k) ∷ [])
    ∙ ap (λ (l : List ℕ). flat_map f (range_with_len 0 k) ++ l) (append-nil (f (0 + k)) ∙ ap f (let e : 0 + k ≡ k = omega arith in e))

pub codes_more : (levels : List (List Field)) (i : ℕ) → i < length levels
    → map (code_of_cell (sizes_of (drop i levels))) (cells_of (sizes_of (drop i levels)))
    ≡ flat_map (λ k. map (λ code. code * room (length (get_or levels i [])) + k)
    (map (code_of_cell (sizes_of (drop (i + 1) levels))) (cells_of (sizes_of (drop (i + 1) levels))))) (range_with_len 0 (length (get_or levels i [])))
codes_more levels i lt =
    ap (λ (l : List (List Field)). map (code_of_cell (sizes_of l)) (cells_of (sizes_of l))) (suffix levels i [] lt)
    ∙ codes_step (length (get_or levels i [])) (sizes_of (drop (i + 1) levels))

-- ---- the loops' steps

pub item_length : (levels : List (List Field)) (i n : ℕ) (ys : List Field) → i < length levels → ys ≡ get_or levels i ys → n ≡ length ys → n
    ≡ length (get_or levels i [])
item_length levels i n ys lt e h = h ∙ ap (λ (l : List Field). length l) (get_or_read levels i ys lt e [])

pub placed_end : (levels : List (List Field)) (cell : List ℕ) (i place t : ℕ) → length levels ≤ i → IsPlaced levels cell i place t → place ≡ t
unfolding place_of
placed_end levels cell i place t le h =
    let none : drop i levels ≡ [] = drop_of_length-le levels le in
    let e : place * 1 + 0 ≡ t = ap (λ (l : List (List Field)). place * cell_count l + place_of (sizes_of l) (drop i cell)) (sym none) ∙ h.whole in
    omega (arith, e)

less : (i : ℕ) → 0 < i → i - 1 + 1 ≡ i
less i h = omega arith

-- the number kept in a field is below its room
pub kept-small : (b : Bool) (m r : ℕ) → (IsTrue b → m < r) → 0 < r → cond b m 0 < r
kept-small true m r h pos = h refl
kept-small false m r h pos = pos

pub mask_next : (vs : List ℕ) (levels : List (List Field)) (of : ℕ → Bool) (i mask r kept : ℕ) → 0 < i → i ≤ length vs → length levels ≡ length vs
    → mask ≡ mask_under (drop i vs) (sizes_of (drop i levels)) of → r ≡ room (length (get_or levels (i - 1) [])) → kept
    ≡ cond (of (get_or vs (i - 1) 0)) (r - 1) 0
    → mask * r + kept ≡ mask_under (drop (i - 1) vs) (sizes_of (drop (i - 1) levels)) of
mask_next vs levels of i mask r kept pos le same m e k =
    ap (λ j. mask * r + j) k
    ∙ ap (λ j. mask * j + cond (of (get_or vs (i - 1) 0)) (j - 1) 0) e
    ∙ ap (λ j. j * room (length (get_or levels (i - 1) [])) + cond (of (get_or vs (i - 1) 0)) (room (length (get_or levels (i - 1) [])) - 1) 0)
    (m ∙ ap (λ j. mask_under (drop j vs) (sizes_of (drop j levels)) of) (sym (less i pos)))
    ∙ sym (mask_more vs levels of (i - 1) (omega arith) (omega (arith, same)))

pub code_next : (vs : List ℕ) (levels : List (List Field)) (of : ℕ → Bool) (at : ℕ → ℕ) (i code r kept : ℕ) → 0 < i → i ≤ length vs → length levels ≡ length vs
    → code ≡ code_under (drop i vs) (sizes_of (drop i levels)) of at → r ≡ room (length (get_or levels (i - 1) [])) → kept
    ≡ cond (of (get_or vs (i - 1) 0)) (at (get_or vs (i - 1) 0)) 0
    → code * r + kept ≡ code_under (drop (i - 1) vs) (sizes_of (drop (i - 1) levels)) of at
code_next vs levels of at i code r kept pos le same m e k =
    ap (λ j. code * r + j) k
    ∙ ap (λ j. code * j + cond (of (get_or vs (i - 1) 0)) (at (get_or vs (i - 1) 0)) 0) e
    ∙ ap (λ j. j * room (length (get_or levels (i - 1) [])) + cond (of (get_or vs (i - 1) 0)) (at (get_or vs (i - 1) 0)) 0)
    (m ∙ ap (λ j. code_under (drop j vs) (sizes_of (drop j levels)) of at) (sym (less i pos)))
    ∙ sym (code_more vs levels of at (i - 1) (omega arith) (omega (arith, same)))

pub codes_next : (levels : List (List Field)) (i n : ℕ) (codes made : List ℕ) → 0 < i → i ≤ length levels → n ≡ length (get_or levels (i - 1) [])
    → codes ≡ map (code_of_cell (sizes_of (drop i levels))) (cells_of (sizes_of (drop i levels)))
    → made ≡ flat_map (λ k. map (λ code. code * room n + k) codes) (range_with_len 0 n)
    → made ≡ map (code_of_cell (sizes_of (drop (i - 1) levels))) (cells_of (sizes_of (drop (i - 1) levels)))
codes_next levels i n codes made pos le e c m =
    m ∙ ap (λ j. flat_map (λ k. map (λ code. code * room j + k) codes) (range_with_len 0 j)) e
    ∙ ap (λ (l : List ℕ). flat_map (λ k. map (λ code. code * room (length (get_or levels (i - 1) [])) + k) l)
    (range_with_len 0 (length (get_or levels (i - 1) []))))
    (c ∙ ap (λ j. map (code_of_cell (sizes_of (drop j levels))) (cells_of (sizes_of (drop j levels)))) (sym (less i pos)))
    ∙ sym (codes_more levels (i - 1) (omega arith))

-- the codes of no vertex
pub codes_end : (levels : List (List Field)) (i : ℕ) → length levels ≤ i → map (code_of_cell (sizes_of (drop i levels))) (cells_of (sizes_of (drop i levels)))
    ≡ 0 ∷ []
codes_end levels i le = ap (λ (l : List (List Field)). map (code_of_cell (sizes_of l)) (cells_of (sizes_of l))) (drop_of_length-le levels le) ∙ codes_none

-- ---- the levels of a vertex

pub levels_skip : (vs : List ℕ) (levels : List (List Field)) (v i : ℕ) → i < length vs → i < length levels → (get_or vs i 0 ≡ v → ⊥)
    → levels_in (drop i vs) (drop i levels) v ≡ levels_in (drop (i + 1) vs) (drop (i + 1) levels) v
levels_skip vs levels v i hv hl ne =
    ap (λ (l : List ℕ). levels_in l (drop i levels) v) (suffix vs i 0 hv)
    ∙ ap (λ (l : List (List Field)). levels_in (get_or vs i 0 ∷ drop (i + 1) vs) l v) (suffix levels i [] hl)
    ∙ ap (λ (b : Bool). cond b (get_or levels i []) (levels_in (drop (i + 1) vs) (drop (i + 1) levels) v)) (ne_eqb (get_or vs i 0) v ne)

pub levels_found : (vs : List ℕ) (levels : List (List Field)) (v i : ℕ) → i < length vs → i < length levels → get_or vs i 0 ≡ v
    → levels_in (drop i vs) (drop i levels) v ≡ get_or levels i []
levels_found vs levels v i hv hl e =
    ap (λ (l : List ℕ). levels_in l (drop i levels) v) (suffix vs i 0 hv)
    ∙ ap (λ (l : List (List Field)). levels_in (get_or vs i 0 ∷ drop (i + 1) vs) l v) (suffix levels i [] hl)
    ∙ ap (λ (b : Bool). cond b (get_or levels i []) (levels_in (drop (i + 1) vs) (drop (i + 1) levels) v)) (eq-eqb (get_or vs i 0) v e)

pub levels_none : (vs : List ℕ) (levels : List (List Field)) (v i : ℕ) → length vs ≤ i → levels_in (drop i vs) (drop i levels) v ≡ []
levels_none vs levels v i le = ap (λ (l : List ℕ). levels_in l (drop i levels) v) (drop_of_length-le vs le)

-- the codes with one more level in front
pub level_done : (n k i : ℕ) (codes made : List ℕ) → length codes ≤ i
    → made ≡ flat_map (λ j. map (λ code. code * room n + j) codes) (range_with_len 0 k) ++ map (λ code. code * room n + k) (take i codes)
    → made ≡ flat_map (λ j. map (λ code. code * room n + j) codes) (range_with_len 0 (k + 1))
level_done n k i codes made le e =
    e ∙ ap (λ (l : List ℕ). flat_map (λ j. map (λ code. code * room n + j) codes) (range_with_len 0 k) ++ map (λ code. code * room n + k) l)
    (take_all i codes le)
    ∙ sym (level-more (λ j. map (λ code. code * room n + j) codes) k)
