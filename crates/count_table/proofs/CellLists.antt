-- The list of all cells, and the place of each.
use Rattle.std.proofs.Common.{ℕ, zero, suc, ◌+◌, ◌*◌, ◌-◌, ◌≡◌, ◌<◌, ◌≤◌, List, [], ◌∷◌, length, get_or, map, All, refl, sym, ap, ◌∙◌, arith, length-append}
use Rattle.std.specs.List.{flat_map, range_with_len}
use Rattle.std.proofs.lemmas.List.{length-map, get_or-map, get_or_append_left, get_or-append_right}
use Rattle.std.proofs.lemmas.List.Elements.{All-nil, All-cons, All-append, All-map}
use Rattle.std.proofs.Math.Nat.{mul-le-mul_right}
use Rattle.count_rows.specs.Vocabulary.{product}
use Rattle.count_table.specs.Cells.{cells_of, place_of, IsCell}

-- a place in mixed radix is within the table
pub below_product : (x n p r : ℕ) → x < n → r < p → x * p + r < n * p
below_product x n p r h k = let m : suc x * p ≤ n * p = mul-le-mul_right p (let q : suc x ≤ n = omega arith in q) in omega (arith, m)

-- the place of a cell is below the number of cells
pub place_of-lt : (ns xs : List ℕ) → IsCell ns xs → place_of ns xs < product ns
unfolding place_of
place_of-lt [] [] h = omega arith
place_of-lt [] (x ∷ xs) h = absurd h
place_of-lt (n ∷ ns) [] h = absurd h
place_of-lt (n ∷ ns) (x ∷ xs) h = below_product x n (product ns) (place_of ns xs) h.0 (place_of-lt ns xs h.1)

-- the cells with each of n numbers from a on in front
abbrev pub fronted : List (List ℕ) → ℕ → ℕ → List (List ℕ)
fronted cells a n = flat_map (λ k. map (λ (cell : List ℕ). k ∷ cell) cells) (range_with_len a n)

length-fronted : (cells : List (List ℕ)) (a n : ℕ) → length (fronted cells a n) ≡ n * length cells
length-fronted cells a zero = omega arith
length-fronted cells a (suc n) =
    let one = length-map cells (λ (cell : List ℕ). a ∷ cell) in
    let more = length-fronted cells (a + 1) n in
    length-append (map (λ (cell : List ℕ). a ∷ cell) cells) (fronted cells (a + 1) n) ∙ omega (arith, one, more)

-- there are as many cells as the numbers of levels multiply to
pub length-cells_of : (ns : List ℕ) → length (cells_of ns) ≡ product ns
unfolding cells_of
length-cells_of [] = refl
length-cells_of (n ∷ ns) = length-fronted (cells_of ns) 0 n ∙ ap (λ k. n * k) (length-cells_of ns)

get-fronted : (cells : List (List ℕ)) (a n x j : ℕ) (d : List ℕ) → x < n → j < length cells → get_or (fronted cells a n) (x * length cells + j) d ≡ (a + x)
    ∷ get_or cells j d
get-fronted cells a zero x j d h k = absurd (omega arith)
get-fronted cells a (suc n) zero j d h k =
    ap (λ i. get_or (fronted cells a (suc n)) i d) (let e : zero * length cells + j ≡ j = omega arith in e)
    ∙ get_or_append_left (map (λ (cell : List ℕ). a ∷ cell) cells) (fronted cells (a + 1) n) d j
    (let m = length-map cells (λ (cell : List ℕ). a ∷ cell) in omega (arith, m))
    ∙ get_or-map (λ (cell : List ℕ). a ∷ cell) cells j d d k
    ∙ ap (λ i. i ∷ get_or cells j d) (let e : a ≡ a + zero = omega arith in e)
get-fronted cells a (suc n) (suc x) j d h k =
    get_or-append_right (map (λ (cell : List ℕ). a ∷ cell) cells) (fronted cells (a + 1) n) (length cells) (suc x * length cells + j) d
    (length-map cells (λ (cell : List ℕ). a ∷ cell)) (omega arith)
    ∙ ap (λ i. get_or (fronted cells (a + 1) n) i d) (let e : suc x * length cells + j - length cells ≡ x * length cells + j = omega arith in e)
    ∙ get-fronted cells (a + 1) n x j d (omega arith) k
    ∙ ap (λ i. i ∷ get_or cells j d) (let e : a + 1 + x ≡ a + suc x = omega arith in e)

-- each cell stands at its place
pub cell_at_place : (ns xs : List ℕ) (d : List ℕ) → IsCell ns xs → get_or (cells_of ns) (place_of ns xs) d ≡ xs
unfolding cells_of place_of
cell_at_place [] [] d h = refl
cell_at_place [] (x ∷ xs) d h = absurd h
cell_at_place (n ∷ ns) [] d h = absurd h
cell_at_place (n ∷ ns) (x ∷ xs) d h =
    let long = length-cells_of ns in
    let small = place_of-lt ns xs h.1 in
    ap (λ m. get_or (fronted (cells_of ns) 0 n) (x * m + place_of ns xs) d) (sym long)
    ∙ get-fronted (cells_of ns) 0 n x (place_of ns xs) d h.0 (omega (arith, long, small))
    ∙ ap (λ (c : List ℕ). (0 + x) ∷ c) (cell_at_place ns xs d h.1)
    ∙ ap (λ i. i ∷ xs) (let e : 0 + x ≡ x = omega arith in e)

All-fronted : (P : List ℕ → Type 0) (cells : List (List ℕ)) (a n m : ℕ) → a + n ≤ m → ((k : ℕ) → k < m → All (λ (c : List ℕ). P (k ∷ c)) cells)
    → All P (fronted cells a n)
All-fronted P cells a zero m le h = All-nil P
All-fronted P cells a (suc n) m le h =
    All-append P (map (λ (cell : List ℕ). a ∷ cell) cells) (fronted cells (a + 1) n)
    (All-map P (λ (cell : List ℕ). a ∷ cell) cells (h a (omega arith)))
    (All-fronted P cells (a + 1) n m (omega arith) h)

-- each of them is a cell
pub cells_of-are : (ns : List ℕ) → All (IsCell ns) (cells_of ns)
unfolding cells_of
cells_of-are [] = All-cons (IsCell []) [] [] tt (All-nil (IsCell []))
cells_of-are (n ∷ ns) = All-fronted (IsCell (n ∷ ns)) (cells_of ns) 0 n n (omega arith) (λ k lt. λ i d short. (lt, cells_of-are ns i d short))
