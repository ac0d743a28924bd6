-- One more row in a table of counts.
use Rattle.std.proofs.Common.{◌≡◌, ℕ, zero, suc, ◌+◌, ◌*◌, ◌^◌, ◌<◌, ◌≤◌, true, false, not, List, [], ◌∷◌, ◌++◌, length, take, drop, get_or}
use Rattle.std.proofs.Common.{drop-cons, inl, inr, refl, ap, ap₂, sym, ◌∙◌, arith, Option, Some, None, set}
use Rattle.std.specs.Prelude.{replicate, map, fold, unwrap_or, nat_le}
use Rattle.std.specs.List.{flat_map}
use Rattle.std.proofs.lemmas.List.Concat.{flat_map-append}
use Rattle.std.proofs.lemmas.Bool.{cases_eq, eq-eqb, le-leb, lt-leb}
use Rattle.std.proofs.lemmas.List.{map-append, take_more, get_or-set_same, get_or-set_other, append_assoc, append-nil, length-map}
use Rattle.std.proofs.lemmas.List.Sums.{sum_by_push}
use Rattle.std.proofs.Math.Nat.{one-le-mul, le-mul_of_pos_right, mul_assoc}
use Rattle.mixed_graph.specs.Vocabulary.{index_of, is_named, with_name}
use Rattle.count_rows.specs.declared.fault.CountFault.TheVariants.{Count, TooLarge, SumTooLarge}
use Rattle.count_rows.specs.declared.tally.Tally.{Tally}
use Rattle.count_rows.specs.Tally.{HoldsRecords}
use Rattle.count_rows.specs.Numbers.{most_counted}
use Rattle.count_rows.specs.Records.{Record, Layout, field_in, levels_at, levels_of, count_of, sum_of, cell_count}
use Rattle.count_rows.specs.Rows.{Row, row_in, rows_in, list_below}
use Rattle.count_rows.specs.Faults.{row_fault, most_cells}
use Rattle.count_rows.proofs.LevelLists.{levels_at-append, index_of-with_name, is_named-with_name, is_named-with_name_self, index_of-with_name_self}

-- a level list that was written at one place
pub written_here : (xs old : List (List (List ℕ))) (i k : ℕ) (new : List (List ℕ)) (f : ℕ → List (List ℕ)) → i < length xs → new ≡ f i →
    ((j : ℕ) → j < i → get_or xs j [] ≡ f j) → k < i + 1 → get_or (set xs i new) k [] ≡ f k
written_here xs old i k new f h e before lt = elim (cases_eq k i) [
  | inl same ↦ rw same (get_or-set_same xs i new [] h ∙ e)
  | inr other ↦ get_or-set_other xs i k new [] other ∙ before k (omega (arith, lt, other))
]

-- a table's cells, from one vertex on
cell_count-drop : (levels : List (List (List ℕ))) (i : ℕ) → i < length levels → cell_count (drop i levels)
    ≡ length (get_or levels i []) * cell_count (drop (i + 1) levels)
cell_count-drop levels i h =
    let k : suc i ≡ i + 1 = omega arith in
    ap (λ (l : List (List (List ℕ))). cell_count l) (drop-cons levels i [] h ∙ ap (λ j. get_or levels i [] ∷ drop j levels) k)

-- it has a cell, where each vertex has a level
cell_count-pos : (levels : List (List (List ℕ))) → ((k : ℕ) → k < length levels → 0 < length (get_or levels k [])) → 1 ≤ cell_count levels
cell_count-pos [] h = omega arith
cell_count-pos (ys ∷ yss) h = one-le-mul (let r = h 0 (omega arith) in omega (arith, r)) (cell_count-pos yss (λ k l. h (suc k) (omega (arith, l))))

nonempty_rest : (levels : List (List (List ℕ))) (i : ℕ) → ((k : ℕ) → k < length levels → 0 < length (get_or levels k [])) → 1 ≤ cell_count (drop i levels)
nonempty_rest levels zero h = cell_count-pos levels h
nonempty_rest [] (suc i) h = omega arith
nonempty_rest (ys ∷ yss) (suc i) h = nonempty_rest yss i (λ k l. h (suc k) (omega (arith, l)))

pub too_many : (levels : List (List (List ℕ))) (i cells : ℕ) → i < length levels → ((k : ℕ) → k < length levels → 0 < length (get_or levels k [])) →
    cells * cell_count (drop i levels) ≡ cell_count levels → 2 ^ 20 < cells * length (get_or levels i []) → true ≡ not (nat_le (cell_count levels) most_cells)
too_many levels i cells h some whole large =
    let here = cell_count-drop levels i h in
    let rest = nonempty_rest levels (i + 1) some in
    let over : most_cells < cell_count levels = grown (cells * length (get_or levels i [])) (cell_count (drop (i + 1) levels)) cells
    (length (get_or levels i [])) (cell_count levels) refl (sym whole ∙ ap (λ n. cells * n) here) rest large in
    sym (ap not (lt-leb (cell_count levels) most_cells over))
  where
    grown : (a r c l t : ℕ) → a ≡ c * l → t ≡ c * (l * r) → 1 ≤ r → 2 ^ 20 < a → most_cells < t
    grown a r c l t e w one big =
        let q : t ≡ a * r = w ∙ sym (mul_assoc c l r) ∙ ap (λ n. n * r) (sym e) in
        let m : a ≤ a * r = le-mul_of_pos_right a one in
        omega (arith, q, m, big)

-- one number more
pub cells_more : (new old acc : List ℕ) (i n : ℕ) (f : ℕ → ℕ) → new ≡ acc ++ n ∷ [] → acc ≡ old ++ list_below i f → n ≡ f i → new ≡ old ++ list_below (i + 1) f
cells_more new old acc i n f a b e =
    let k : suc i ≡ i + 1 = omega arith in
    a ∙ ap (λ (l : List ℕ). l ++ n ∷ []) b ∙ append_assoc old (list_below i f) (n ∷ []) ∙ ap (λ m. old ++ (list_below i f ++ m ∷ [])) e
    ∙ ap (λ j. old ++ list_below j f) k

take_all : (xs : List ℕ) → take (length xs) xs ≡ xs
take_all [] = refl
take_all (x ∷ xs) = ap (λ (l : List ℕ). x ∷ l) (take_all xs)

below_is_map : (places : List ℕ) (n : ℕ) (f g : ℕ → ℕ) → n ≤ length places → ((i : ℕ) → i < length places → f i ≡ g (get_or places i 0)) → list_below n f
    ≡ map g (take n places)
below_is_map places zero f g h e = refl
below_is_map places (suc n) f g h e =
    let k : n + 1 ≡ suc n = omega arith in
    ap₂ (λ (l : List ℕ) m. l ++ m ∷ []) (below_is_map places n f g (omega (arith, h)) e) (e n (omega (arith, h)))
    ∙ sym (map-append g (take n places) (get_or places n 0 ∷ []))
    ∙ ap (map g) (sym (take_more places n 0 (omega (arith, h))) ∙ ap (λ j. take j places) k)

-- numbers by place are those of a list
pub list_below-map : (places : List ℕ) (f g : ℕ → ℕ) → ((i : ℕ) → i < length places → f i ≡ g (get_or places i 0)) → list_below (length places) f ≡ map g places
list_below-map places f g e = below_is_map places (length places) f g (omega arith) e ∙ ap (map g) (take_all places)

pub get_or-map : {X : Type 0} (f : ℕ → X) (places : List ℕ) (i : ℕ) (d : X) → i < length places → get_or (map f places) i d ≡ f (get_or places i 0)
get_or-map f [] i d h = absurd (omega arith)
get_or-map f (p ∷ ps) zero d h = refl
get_or-map f (p ∷ ps) (suc i) d h = get_or-map f ps i d (omega (arith, h))

-- a list that is f of each place
pub is_map : {X : Type 0} (f : ℕ → X) (places : List ℕ) (xs : List X) (d : X) → length xs ≡ length places
    → ((i : ℕ) → i < length places → get_or xs i d ≡ f (get_or places i 0)) → xs ≡ map f places
is_map f [] [] d l h = refl
is_map f [] (x ∷ xs) d l h = absurd (omega (arith, l))
is_map f (p ∷ ps) [] d l h = absurd (omega (arith, l))
is_map f (p ∷ ps) (x ∷ xs) d l h = ap₂ (λ y ys. y ∷ ys) (h 0 (omega arith)) (is_map f ps xs d (omega (arith, l)) (λ i k. h (suc i) (omega (arith, k))))

-- the levels of the rows and one more
pub levels_grown : (places : List ℕ) (rows : List Record) (r : Record) (old new : List (List (List ℕ))) → old ≡ map (levels_at rows) places → length new
    ≡ length old →
    ((i : ℕ) → i < length places → get_or new i [] ≡ with_name (get_or old i []) (field_in (get_or places i 0) r)) → new
    ≡ map (levels_at (rows ++ r ∷ [])) places
levels_grown places rows r old new is long h =
    let n : length old ≡ length places = ap (λ (l : List (List (List ℕ))). length l) is ∙ simp length-map in
    is_map (levels_at (rows ++ r ∷ [])) places new [] (long ∙ n) (λ i lt.
    h i lt ∙ ap (λ (l : List (List ℕ)). with_name l (field_in (get_or places i 0) r))
    (ap (λ (l : List (List (List ℕ))). get_or l i []) is ∙ get_or-map (levels_at rows) places i [] lt)
    ∙ sym (levels_at-append rows r (get_or places i 0)))

-- a level was added, so there is one
pub with_name-pos : (names : List (List ℕ)) (x : List ℕ) → 0 < length (with_name names x)
with_name-pos names x = go (with_name names x) (is_named-with_name_self names x)
  where
    go : (l : List (List ℕ)) → is_named l x ≡ true → 0 < length l
    go [] e = absurd (cc e)
    go (y ∷ ys) e = omega arith

seen_from : (start xs : List (List ℕ)) (k : ℕ) → k < length xs → is_named (fold with_name start xs) (get_or xs k []) ≡ true
seen_from start [] k h = absurd (omega arith)
seen_from start (x ∷ xs) zero h = kept (with_name start x) xs x (is_named-with_name_self start x)
  where
    kept : (s ys : List (List ℕ)) (y : List ℕ) → is_named s y ≡ true → is_named (fold with_name s ys) y ≡ true
    kept s [] y e = e
    kept s (z ∷ ys) y e = kept (with_name s z) ys y (is_named-with_name s z y e)
seen_from start (x ∷ xs) (suc k) h = seen_from (with_name start x) xs k (omega (arith, h))

field_of_map : (place : ℕ) (rows : List Record) (k : ℕ) → k < length rows → get_or (map (field_in place) rows) k [] ≡ field_in place (get_or rows k [])
field_of_map place [] k h = absurd (omega arith)
field_of_map place (q ∷ rows) zero h = refl
field_of_map place (q ∷ rows) (suc k) h = field_of_map place rows k (omega (arith, h))

-- each row's field is a level
seen : (rows : List Record) (place k : ℕ) → k < length rows → is_named (levels_at rows place) (field_in place (get_or rows k [])) ≡ true
unfolding levels_at
seen rows place k h =
    let n : length (map (field_in place) rows) ≡ length rows = simp length-map in
    ap (λ (x : List ℕ). is_named (fold with_name [] (map (field_in place) rows)) x) (sym (field_of_map place rows k h))
    ∙ seen_from [] (map (field_in place) rows) k (omega (arith, n, h))

map_same : {X : Type 0} (f g : Record → X) (rows : List Record) → ((k : ℕ) → k < length rows → f (get_or rows k []) ≡ g (get_or rows k [])) → map f rows
    ≡ map g rows
map_same f g [] h = refl
map_same f g (q ∷ rows) h = ap₂ (λ y ys. y ∷ ys) (h 0 (omega arith)) (map_same f g rows (λ k l. h (suc k) (omega (arith, l))))

map_places : (f g : ℕ → ℕ) (places : List ℕ) → ((p : ℕ) → f p ≡ g p) → map f places ≡ map g places
map_places f g [] h = refl
map_places f g (p ∷ ps) h = ap₂ (λ y ys. y ∷ ys) (h p) (map_places f g ps h)

-- a row keeps its numbers when levels are added
row_keeps : (layout : Layout) (rows : List Record) (r : Record) (k : ℕ) → k < length rows → row_in layout (rows ++ r ∷ []) (get_or rows k [])
    ≡ row_in layout rows (get_or rows k [])
row_keeps layout rows r k h =
    let q = get_or rows k [] in
    ap (λ (cell : List ℕ). let row : Row = record { cell = cell; count = unwrap_or (count_of layout.count_place q) 0 } in row)
    (map_places _ _ layout.places (λ p.
    ap (λ (l : List (List ℕ)). index_of l (field_in p q)) (levels_at-append rows r p)
    ∙ index_of-with_name (levels_at rows p) (field_in p r) (field_in p q) (seen rows p k h)))

pub rows_in-append : (layout : Layout) (rows : List Record) (r : Record) → rows_in layout (rows ++ r ∷ []) ≡ rows_in layout rows
    ++ row_in layout (rows ++ r ∷ []) r ∷ []
unfolding rows_in
rows_in-append layout rows r =
    map-append (row_in layout (rows ++ r ∷ [])) rows (r ∷ [])
    ∙ ap (λ (l : List Row). l ++ row_in layout (rows ++ r ∷ []) r ∷ [])
    (map_same (row_in layout (rows ++ r ∷ [])) (row_in layout rows) rows (row_keeps layout rows r))

-- the numbers of a row's fields, among the levels before it
pub new_cell : (layout : Layout) (rows : List Record) (r : Record) (levels : List (List (List ℕ))) → levels ≡ levels_of layout rows →
    list_below (length layout.places) (λ i. index_of (get_or levels i []) (field_in (get_or layout.places i 0) r))
    ≡ map (λ place. index_of (levels_at (rows ++ r ∷ []) place) (field_in place r)) layout.places
new_cell layout rows r levels is =
    list_below-map layout.places _ _ (λ i h.
    ap (λ (l : List (List ℕ)). index_of l (field_in (get_or layout.places i 0) r))
    (ap (λ (l : List (List (List ℕ))). get_or l i []) is ∙ get_or-map (levels_at rows) layout.places i [] h)
    ∙ sym (index_of-with_name_self (levels_at rows (get_or layout.places i 0)) (field_in (get_or layout.places i 0) r))
    ∙ ap (λ (l : List (List ℕ)). index_of l (field_in (get_or layout.places i 0) r)) (sym (levels_at-append rows r (get_or layout.places i 0))))

pub row_no_count : (layout : Layout) (before : List Record) (r : Record) → count_of layout.count_place r ≡ None → row_fault (length r) layout before r
    ≡ Some (Count (length before + 1))
unfolding row_fault
row_no_count layout before r none = rw (eq-eqb (length r) (length r) refl, none) refl

pub row_too_large : (layout : Layout) (before : List Record) (r : Record) (n : ℕ) → count_of layout.count_place r ≡ Some n
    → not (nat_le (cell_count (levels_of layout (before ++ r ∷ []))) most_cells) ≡ true →
    row_fault (length r) layout before r ≡ Some TooLarge
unfolding row_fault
row_too_large layout before r n some large = rw (eq-eqb (length r) (length r) refl, some, large) refl

pub row_too_much : (layout : Layout) (before : List Record) (r : Record) (n : ℕ) → count_of layout.count_place r ≡ Some n
    → not (nat_le (cell_count (levels_of layout (before ++ r ∷ []))) most_cells) ≡ false →
    most_counted < sum_of layout (before ++ r ∷ []) → row_fault (length r) layout before r ≡ Some SumTooLarge
unfolding row_fault
row_too_much layout before r n some small much = rw (eq-eqb (length r) (length r) refl, some, small, lt-leb _ _ much) refl

pub row_fits : (layout : Layout) (before : List Record) (r : Record) (n : ℕ) → count_of layout.count_place r ≡ Some n
    → not (nat_le (cell_count (levels_of layout (before ++ r ∷ []))) most_cells) ≡ false →
    sum_of layout (before ++ r ∷ []) ≤ most_counted → row_fault (length r) layout before r ≡ None
unfolding row_fault
row_fits layout before r n some small few = rw (eq-eqb (length r) (length r) refl, some, small, le-leb _ _ few) refl

-- the sum with one row more
pub sum_of-append : (layout : Layout) (rows : List Record) (r : Record) (n : ℕ) → count_of layout.count_place r ≡ Some n → sum_of layout (rows ++ r ∷ [])
    ≡ sum_of layout rows + n
sum_of-append layout rows r n some = sum_by_push (λ q. unwrap_or (count_of layout.count_place q) 0) rows r
    ∙ ap (λ (o : Option ℕ). sum_of layout rows + unwrap_or o 0) some

-- the cells of the rows and one more
pub cells_held : (layout : Layout) (rows : List Record) (r : Record) (levels : List (List (List ℕ))) (old new : List ℕ) → levels ≡ levels_of layout rows →
    old ≡ flat_map (λ (x : Row). x.cell) (rows_in layout rows) →
    new ≡ old ++ list_below (length layout.places) (λ i. index_of (get_or levels i []) (field_in (get_or layout.places i 0) r)) →
    new ≡ flat_map (λ (x : Row). x.cell) (rows_in layout (rows ++ r ∷ []))
cells_held layout rows r levels old new is held e =
    e ∙ ap₂ (λ (a b : List ℕ). a ++ b) held (new_cell layout rows r levels is ∙ sym (append-nil (row_in layout (rows ++ r ∷ []) r).cell))
    ∙ sym (flat_map-append (λ (x : Row). x.cell) (rows_in layout rows) (row_in layout (rows ++ r ∷ []) r ∷ []))
    ∙ ap (flat_map (λ (x : Row). x.cell)) (sym (rows_in-append layout rows r))

-- their counts
pub counts_held : (layout : Layout) (rows : List Record) (r : Record) (n : ℕ) (old new : List ℕ) → count_of layout.count_place r ≡ Some n →
    old ≡ map (λ (x : Row). x.count) (rows_in layout rows) → new ≡ old ++ n ∷ [] → new ≡ map (λ (x : Row). x.count) (rows_in layout (rows ++ r ∷ []))
counts_held layout rows r n old new some held e =
    e ∙ ap₂ (λ (a : List ℕ) m. a ++ m ∷ []) held (sym (ap (λ (o : Option ℕ). unwrap_or o 0) some))
    ∙ sym (map-append (λ (x : Row). x.count) (rows_in layout rows) (row_in layout (rows ++ r ∷ []) r ∷ []))
    ∙ ap (map (λ (x : Row). x.count)) (sym (rows_in-append layout rows r))

-- before the first row
pub holds-nil : (layout : Layout) (tally : Tally) → tally.levels.items ≡ replicate (length layout.places) [] → tally.cells.items ≡ [] → tally.counts.items
    ≡ [] → tally.sum ≡ 0 → HoldsRecords layout [] tally
unfolding levels_at rows_in
holds-nil layout tally levels cells counts sum = record {
  levels = levels ∙ copies layout.places;
  cells = cells;
  counts = counts;
  sum = sum;
}
  where
    copies : (places : List ℕ) → replicate (length places) [] ≡ map (λ (p : ℕ). fold with_name [] []) places
    copies [] = refl
    copies (p ∷ ps) = ap (λ (l : List (List (List ℕ))). [] ∷ l) (copies ps)

pub length-replicate : (n : ℕ) (x : List (List ℕ)) → length (replicate n x) ≡ n
length-replicate zero x = refl
length-replicate (suc n) x = ap (λ k. suc k) (length-replicate n x)
