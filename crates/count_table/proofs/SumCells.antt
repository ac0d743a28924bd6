-- The place of each cell of a table, and the one row that agrees with an assignment on all vertices.
use Rattle.std.proofs.Common.{ℕ, zero, suc, ◌+◌, ◌*◌, ◌/◌, ◌%◌, ◌≡◌, ◌≢◌, ◌<◌, Bool, true, false, ◌&&◌, ◌||◌, not, cond}
use Rattle.std.proofs.Common.{eqb, List, [], ◌∷◌, ◌++◌, length, get_or, map, All, refl, sym, ap, ◌∙◌, inl, inr, arith, sum_by}
use Rattle.std.proofs.lemmas.Bool.{cases_Bool, eq-eqb}
use Rattle.std.proofs.lemmas.Bool.Decides.{eqb_tells}
use Rattle.std.proofs.lemmas.Nat.{div_below}
use Rattle.std.proofs.lemmas.List.Elements.{All-head, All-tail}
use Rattle.std.proofs.lemmas.List.Sums.{sum_by-cons}
use Rattle.count_rows.specs.Vocabulary.{product, Row, agrees, counted}
use Rattle.count_table.specs.Cells.{place_of, IsCell, cells_of}
use Rattle.count_table.proofs.CellLists.{place_of-lt, cell_at_place}

-- ---- places of cells that stand one behind the other

regroup : (a b c d : ℕ) → a * (b * c) + (d * c) ≡ (a * b + d) * c
regroup a b c d = grind arith

-- a cell in two parts: the place of the first, times the number of second parts, plus the place of the second
pub place_of-append : (ms ns xs ys : List ℕ) → IsCell ms xs → place_of (ms ++ ns) (xs ++ ys) ≡ place_of ms xs * product ns + place_of ns ys
unfolding place_of
place_of-append [] ns [] ys h = omega arith
place_of-append [] ns (x ∷ xs) ys h = absurd h
place_of-append (m ∷ ms) ns [] ys h = absurd h
place_of-append (m ∷ ms) ns (x ∷ xs) ys h =
    let ih = place_of-append ms ns xs ys h.1 in
    let p = product_split ms ns in
    let e = ap (λ k. x * k) p in
    let r = regroup x (product ms) (product ns) (place_of ms xs) in
    omega (arith, ih, e, r)
  where
    assoc : (a b c : ℕ) → a * (b * c) ≡ (a * b) * c
    assoc a b c = grind arith

    product_split : (cs bs : List ℕ) → product (cs ++ bs) ≡ product cs * product bs
    product_split [] bs = omega arith
    product_split (a ∷ cs) bs = ap (λ k. a * k) (product_split cs bs) ∙ assoc a (product cs) (product bs)

-- a cell behind a cell is a cell over the vertices of both
pub IsCell-append : (ms ns xs ys : List ℕ) → IsCell ms xs → IsCell ns ys → IsCell (ms ++ ns) (xs ++ ys)
IsCell-append [] ns [] ys h k = k
IsCell-append [] ns (x ∷ xs) ys h k = absurd h
IsCell-append (m ∷ ms) ns [] ys h k = absurd h
IsCell-append (m ∷ ms) ns (x ∷ xs) ys h k = (h.0, IsCell-append ms ns xs ys h.1 k)

-- a cell over two lists of vertices parts into a cell over each
pub IsCell-split : (ms ns xs ys : List ℕ) → length xs ≡ length ms → IsCell (ms ++ ns) (xs ++ ys) → IsCell ms xs × IsCell ns ys
IsCell-split [] ns [] ys e h = (tt, h)
IsCell-split [] ns (x ∷ xs) ys e h = absurd (omega arith)
IsCell-split (m ∷ ms) ns [] ys e h = absurd (omega arith)
IsCell-split (m ∷ ms) ns (x ∷ xs) ys e h = let (a, b) = IsCell-split ms ns xs ys (omega arith) h.1 in ((h.0, a), b)

-- a level of the cell
pub IsCell-at : (ns xs : List ℕ) (i : ℕ) → IsCell ns xs → i < length ns → get_or xs i 0 < get_or ns i 0
IsCell-at [] xs i h lt = absurd (omega arith)
IsCell-at (n ∷ ns) [] i h lt = absurd h
IsCell-at (n ∷ ns) (x ∷ xs) zero h lt = h.0
IsCell-at (n ∷ ns) (x ∷ xs) (suc i) h lt = IsCell-at ns xs i h.1 (omega arith)

-- an assignment below the numbers of levels is a cell
pub IsCell-map : (f at : ℕ → ℕ) (vs : List ℕ) → All (λ v. at v < f v) vs → IsCell (map f vs) (map at vs)
IsCell-map f at [] h = tt
IsCell-map f at (v ∷ vs) h = (All-head (λ u. at u < f u) v vs h, IsCell-map f at vs (All-tail (λ u. at u < f u) v vs h))

-- ---- the cell at a place

-- a cell with this place
pub record HasPlace (ns : List ℕ) (j : ℕ) (xs : List ℕ) : Type 0 where
  pub cell : IsCell ns xs
  pub place : place_of ns xs ≡ j

some_factor : (n p j : ℕ) → j < n * p → 0 < p
some_factor n zero j lt = absurd (let e : n * zero ≡ 0 = omega arith in omega (arith, lt, e))
some_factor n (suc p) j lt = omega arith

-- each number below the number of cells is the place of a cell
pub cell_with : (ns : List ℕ) (j : ℕ) → j < product ns → (xs : List ℕ) × HasPlace ns j xs
unfolding place_of
cell_with [] j lt = ([], record { cell = tt; place = omega arith })
cell_with (n ∷ ns) j lt =
    let pos = some_factor n (product ns) j lt in
    let (xs, h) = cell_with ns (j % product ns) (omega (arith, pos)) in
    let first = div_below j (product ns) n pos lt in
    let place = h.place in (
      (j / product ns) ∷ xs,
      record { cell = (first, h.cell); place = (let e : product ns * (j / product ns) + j % product ns ≡ j = omega (arith, pos) in omega (arith, e, place)) },
    )

-- cells stand in the order of their places
pub place_of_cell : (ns : List ℕ) (j : ℕ) → j < product ns → place_of ns (get_or (cells_of ns) j []) ≡ j
place_of_cell ns j lt =
    let (xs, h) = cell_with ns j lt in
    ap (λ i. place_of ns (get_or (cells_of ns) i [])) (sym h.place) ∙ ap (place_of ns) (cell_at_place ns xs [] h.cell) ∙ h.place

-- ---- the row that agrees on all vertices

-- a cell agrees with its own assignment
agrees-own : (vs : List ℕ) (s : ℕ → Bool) (at : ℕ → ℕ) → agrees vs (map at vs) s at ≡ true
agrees-own [] s at = refl
agrees-own (v ∷ vs) s at = ap (λ b. b && agrees vs (map at vs) s at) (ap (λ b. not (s v) || b) (eq-eqb (at v) (at v) refl) ∙ always (s v)) ∙ agrees-own vs s at
  where
    always : (b : Bool) → (not b || true) ≡ true
    always true = refl
    always false = refl

-- and no other one that has levels of all vertices
agrees-alone : (vs cell : List ℕ) (s : ℕ → Bool) (at : ℕ → ℕ) → length cell ≡ length vs → All (λ v. s v ≡ true) vs → agrees vs cell s at ≡ true → cell
    ≡ map at vs
agrees-alone [] [] s at long all h = refl
agrees-alone [] (x ∷ xs) s at long all h = absurd (omega arith)
agrees-alone (v ∷ vs) [] s at long all h = absurd (omega arith)
agrees-alone (v ∷ vs) (x ∷ xs) s at long all h =
    let step : (eqb x (at v) && agrees vs xs s at) ≡ true = ap (λ b. (not b || eqb x (at v)) && agrees vs xs s at) (sym (All-head (λ u. s u ≡ true) v vs all))
    ∙ h in
    let (here, there) = both (eqb x (at v)) (agrees vs xs s at) step in
    let same : x ≡ at v = elim (eqb_tells x (at v)) [ inl e ↦ e.1 | inr e ↦ absurd (cc (e.0, here)) ] in
    ap (λ n. n ∷ xs) same ∙ ap (λ (l : List ℕ). at v ∷ l) (agrees-alone vs xs s at (omega arith) (All-tail (λ u. s u ≡ true) v vs all) there)
  where
    both : (p q : Bool) → (p && q) ≡ true → (p ≡ true) × (q ≡ true)
    both true q e = (refl, e)
    both false q e = absurd (cc e)

-- a sum over rows with one term that isn't 0
sum_by-none : (f : Row → ℕ) (rows : List Row) → All (λ (r : Row). f r ≡ 0) rows → sum_by f rows ≡ 0
sum_by-none f [] h = refl
sum_by-none f (r ∷ rows) h =
    let a = sum_by-cons f r rows in
    let b = All-head (λ (x : Row). f x ≡ 0) r rows h in
    let c = sum_by-none f rows (All-tail (λ (x : Row). f x ≡ 0) r rows h) in
    omega (arith, a, b, c)

only_row : (f : Row → ℕ) (rows : List Row) (p : ℕ) (d : Row) → p < length rows → ((j : ℕ) (e : Row) → j < length rows → j ≢ p → f (get_or rows j e) ≡ 0)
    → sum_by f rows ≡ f (get_or rows p d)
only_row f [] p d lt h = absurd (omega arith)
only_row f (r ∷ rows) zero d lt h =
    let a = sum_by-cons f r rows in
    let b = sum_by-none f rows (λ i e less. h (suc i) e (omega arith) (λ q. omega (arith, q))) in
    omega (arith, a, b)
only_row f (r ∷ rows) (suc p) d lt h =
    let a = sum_by-cons f r rows in
    let b = h zero r (omega arith) (λ q. omega (arith, q)) in
    let c = only_row f rows p d (omega arith) (λ j e less ne. h (suc j) e (omega arith) (λ q. ne (omega (arith, q)))) in
    omega (arith, a, b, c)

-- the rows whose cells are all cells: the one that agrees on all vertices is that at the assignment's place
pub counted-all : (vs ns : List ℕ) (rows : List Row) (s : ℕ → Bool) (at : ℕ → ℕ) (d : Row) → length ns ≡ length vs → length rows ≡ product ns
    → ((j : ℕ) (e : Row) → j < product ns → (get_or rows j e).cell ≡ get_or (cells_of ns) j [])
    → ((j : ℕ) → j < product ns → length (get_or (cells_of ns) j []) ≡ length vs)
    → All (λ v. s v ≡ true) vs → IsCell ns (map at vs)
    → counted vs rows s at ≡ (get_or rows (place_of ns (map at vs)) d).count
counted-all vs ns rows s at d same long cells wide all h =
    let p = place_of ns (map at vs) in
    let within = place_of-lt ns (map at vs) h in
    only_row (λ (r : Row). cond (agrees vs r.cell s at) r.count 0) rows p d (omega (arith, long, within))
    (λ j e less ne. ap (λ b. cond b (get_or rows j e).count 0) (differs j e (omega (arith, long, less)) ne))
    ∙ ap (λ b. cond b (get_or rows p d).count 0)
    (ap (λ (c : List ℕ). agrees vs c s at) (cells p d within ∙ cell_at_place ns (map at vs) [] h) ∙ agrees-own vs s at)
  where
    differs : (j : ℕ) (e : Row) → j < product ns → j ≢ place_of ns (map at vs) → agrees vs (get_or rows j e).cell s at ≡ false
    differs j e less ne = elim (cases_Bool (agrees vs (get_or rows j e).cell s at)) [
      | inl agree ↦
          let c = cells j e less in
          let one = agrees-alone vs (get_or rows j e).cell s at (ap (λ (l : List ℕ). length l) c ∙ wide j less) all agree in
          absurd (ne (sym (place_of_cell ns j less) ∙ ap (place_of ns) (sym c ∙ one)))
      | inr no_row ↦ no_row
    ]
