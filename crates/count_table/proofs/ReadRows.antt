-- The rows that were read are rows of a table.
use Rattle.std.proofs.Common.{ℕ, zero, suc, ◌+◌, ◌*◌, ◌^◌, ◌≡◌, ◌<◌, ◌≤◌, Bool, true, false, cond, ◌||◌, not, eqb, nat_le, List, [], ◌∷◌, ◌++◌}
use Rattle.std.proofs.Common.{length, get_or, map, All, refl, sym, ap, subst, ◌∙◌, inl, inr, arith, sum, Option, Some, None, length-append}
use Rattle.count_rows.specs.declared.fault.CountFault.{CountFault}
use Rattle.count_rows.specs.Vocabulary.{most_counted, Field, Record, Layout, header_of, rows_of, layout_of, field_in, levels_at, levels_of, count_of, sum_of, cell_count, Row, row_in, rows_in, or_else, header_fault, row_fault, rows_fault, empty_fault, records_fault, most_cells, AreLevels, HoldsRecords}
use Rattle.std.specs.Prelude.{◌==◌, fold, is_none, unwrap_or}
use Rattle.std.specs.List.{flat_map, AllPairs}
use Rattle.std.specs.Str.{bytes_eq}
use Rattle.std.proofs.lemmas.Bool.{cases_Bool}
use Rattle.std.proofs.lemmas.List.{append_assoc, get_or-map, length-map, append-nil}
use Rattle.std.proofs.lemmas.List.Elements.{All-nil, All-cons, All-map, All-append, All-head, All-tail, All-weaker}
use Rattle.std.proofs.lemmas.List.Quantifiers.{all_pairs_push}
use Rattle.std.proofs.lemmas.List.Sums.{sum-map}
use Rattle.std.specs.Option.{option_to_list}
use Rattle.mixed_graph.specs.Vocabulary.{has, members_below, index_of, is_named, with_name}
use Rattle.count_rows.specs.declared.tally.Tally.{Tally}
use Rattle.count_rows.proofs.LevelLists.{is_named-with_name, is_named-with_name_self}
use Rattle.mixed_graph.proofs.MemberLists.{members-pos}
use Rattle.count_table.specs.Cells.{IsCell, cells_of, sizes_of, rows_from, count_at}
use Rattle.count_table.specs.Codes.{code_of_cell}
use Rattle.count_table.specs.Tables.{AreRows, IsKeptTable}
use Rattle.count_table.proofs.CellLists.{length-cells_of}
use Rattle.count_table.proofs.RowLists.{cells-rows_with, total_alike}
use Rattle.count_table.proofs.Filling.{rows_from-all, total-rows_from}

-- ---- members of a set

pub members-below : (s : ℕ → Bool) (k : ℕ) → All (λ v. v < k) (members_below s k)
unfolding members_below
members-below s zero = All-nil (λ v. v < zero)
members-below s (suc k) =
    All-append (λ v. v < suc k) (members_below s k) (cond (s k) (k ∷ []) [])
    (All-weaker (λ v. v < k) (λ v. v < suc k) (λ v lt. omega (arith, lt)) (members_below s k) (members-below s k)) (last (s k) k)
  where
    last : (b : Bool) (n : ℕ) → All (λ v. v < suc n) (cond b (n ∷ []) [])
    last true n = All-cons (λ v. v < suc n) n [] (omega arith) (All-nil (λ v. v < suc n))
    last false n = All-nil (λ v. v < suc n)

pub members-ascending : (s : ℕ → Bool) (k : ℕ) → AllPairs (λ u v. u < v) (members_below s k)
unfolding members_below
members-ascending s zero = λ i j d lt long. absurd (omega (arith, long))
members-ascending s (suc k) = last (s k) (members_below s k) k (members-ascending s k) (members-below s k)
  where
    last : (b : Bool) (vs : List ℕ) (n : ℕ) → AllPairs (λ u v. u < v) vs → All (λ v. v < n) vs → AllPairs (λ u v. u < v) (vs ++ cond b (n ∷ []) [])
    last true vs n h below = all_pairs_push (λ u v. u < v) vs n h below
    last false vs n h below = subst (λ (l : List ℕ). AllPairs (λ u v. u < v) l) (sym (append-nil vs)) h

-- ---- numbers of levels

named-kept : (seen xs : List Field) (x : Field) → is_named seen x ≡ true → is_named (fold with_name seen xs) x ≡ true
named-kept seen [] x h = h
named-kept seen (y ∷ ys) x h = named-kept (with_name seen y) ys x (is_named-with_name seen y x h)

named-all : (seen xs : List Field) → All (λ (x : Field). is_named (fold with_name seen xs) x ≡ true) xs
named-all seen [] = All-nil (λ (x : Field). is_named seen x ≡ true)
named-all seen (x ∷ xs) =
    All-cons (λ (y : Field). is_named (fold with_name (with_name seen x) xs) y ≡ true) x xs
    (named-kept (with_name seen x) xs x (is_named-with_name_self seen x)) (named-all (with_name seen x) xs)

index-lt : (names : List Field) (x : Field) → is_named names x ≡ true → index_of names x < length names
index-lt [] x h = absurd (cc h)
index-lt (y ∷ names) x h = elim (cases_Bool (bytes_eq x y)) [
  | inl same ↦ let e = ap (λ b. cond (not b) (1 + index_of names x) 0) same in omega (arith, e)
  | inr other ↦
      let step : (bytes_eq x y || is_named names x) ≡ is_named names x = ap (λ b. b || is_named names x) other in
      let rest : is_named names x ≡ true = sym step ∙ h in
      let e = ap (λ b. cond (not b) (1 + index_of names x) 0) other in
      let l = index-lt names x rest in
      omega (arith, e, l)
]

-- each field of the rows has a number among the levels of its column
level_found : (rows : List Record) (place i : ℕ) (d : Record) → i < length rows
    → index_of (levels_at rows place) (field_in place (get_or rows i d)) < length (levels_at rows place)
unfolding levels_at
level_found rows place i d lt =
    let fields = map (field_in place) rows in
    let long = length-map rows (field_in place) in
    let at = get_or-map (field_in place) rows i d [] lt in
    let named = named-all [] fields i [] (omega (arith, lt, long)) in
    index-lt (fold with_name [] fields) (field_in place (get_or rows i d)) (ap (λ (x : Field). is_named (fold with_name [] fields) x) (sym at) ∙ named)

cell-in : (places : List ℕ) (rows : List Record) (r : Record) → ((place : ℕ)
    → index_of (levels_at rows place) (field_in place r) < length (levels_at rows place))
    → IsCell (sizes_of (map (levels_at rows) places)) (map (λ place. index_of (levels_at rows place) (field_in place r)) places)
cell-in [] rows r h = tt
cell-in (p ∷ ps) rows r h = (h p, cell-in ps rows r h)

some_level : (places : List ℕ) (r : Record) (rows : List Record) → All (λ (ys : List Field). 0 < length ys) (map (levels_at (r ∷ rows)) places)
some_level places r rows =
    All-map (λ (ys : List Field). 0 < length ys) (levels_at (r ∷ rows)) places
    (λ i d lt. (let l = level_found (r ∷ rows) (get_or places i d) 0 r (omega arith) in omega (arith, l)))

-- ---- the faults that didn't come

pub neither_fault : (a b : Option CountFault) → or_else a b ≡ None → (a ≡ None) × (b ≡ None)
neither_fault None b h = (refl, h)
neither_fault (Some f) b h = absurd (cc h)

third_passed : (a b c : Bool) (f g h : CountFault) (rest : Option CountFault) → cond a (Some f) (cond b (Some g) (cond (not c) (Some h) rest)) ≡ None → c ≡ true
third_passed true b c f g h rest e = absurd (cc e)
third_passed false true c f g h rest e = absurd (cc e)
third_passed false false true f g h rest e = refl
third_passed false false false f g h rest e = absurd (cc e)

row_few : (w : ℕ) (l : Layout) (before : List Record) (r : Record) → row_fault w l before r ≡ None → cell_count (levels_of l (before ++ r ∷ [])) ≤ most_cells
unfolding row_fault
row_few w l before r e =
    let t : nat_le (cell_count (levels_of l (before ++ r ∷ []))) most_cells ≡ true =
    third_passed (not (length r == w)) (is_none (count_of l.count_place r)) (nat_le (cell_count (levels_of l (before ++ r ∷ []))) most_cells)
    (CountFault.NotCsv (length before + 1)) (CountFault.Count (length before + 1)) CountFault.TooLarge
    (cond (not (nat_le (sum_of l (before ++ r ∷ [])) most_counted)) (Some CountFault.SumTooLarge) None) e in
    grind (arith, t)

rows_few : (w : ℕ) (l : Layout) (before : List Record) (r : Record) (rows : List Record) → rows_fault w l before (r ∷ rows) ≡ None
    → cell_count (levels_of l (before ++ r ∷ rows)) ≤ most_cells
unfolding rows_fault
rows_few w l before r [] e = row_few w l before r (neither_fault (row_fault w l before r) (rows_fault w l (before ++ r ∷ []) []) e).0
rows_few w l before r (s ∷ rows) e =
    subst (λ (all : List Record). cell_count (levels_of l all) ≤ most_cells) (append_assoc before (r ∷ []) (s ∷ rows))
    (rows_few w l (before ++ r ∷ []) s rows (neither_fault (row_fault w l before r) (rows_fault w l (before ++ r ∷ []) (s ∷ rows)) e).1)

sum-some : (n : ℕ) → cond (eqb n 0) (Some CountFault.NoRows) None ≡ None → 1 ≤ n
sum-some zero e = absurd (cc e)
sum-some (suc n) e = omega arith

-- ---- the rows that were read

map_map : {X Y Z : Type 0} (f : Y → Z) (g : X → Y) (xs : List X) → map f (map g xs) ≡ map (λ x. f (g x)) xs
map_map f g [] = refl
map_map f g (x ∷ xs) = ap (λ ys. f (g x) ∷ ys) (map_map f g xs)

pub cells-long : (l : Layout) (rows : List Record) → All (λ (r : Row). length r.cell ≡ length (levels_of l rows)) (rows_in l rows)
unfolding rows_in
cells-long l rows =
    All-map (λ (r : Row). length r.cell ≡ length (levels_of l rows)) (row_in l rows) rows
    (λ i d lt. length-map l.places (λ place. index_of (levels_at rows place) (field_in place (get_or rows i d))) ∙ sym (length-map l.places (levels_at rows)))

flat-length : (w : ℕ) (rows : List Row) → All (λ (r : Row). length r.cell ≡ w) rows → length (flat_map (λ (r : Row). r.cell) rows) ≡ w * length rows
flat-length w [] h = omega arith
flat-length w (r ∷ rows) h =
    let one = All-head (λ (x : Row). length x.cell ≡ w) r rows h in
    let rest = flat-length w rows (All-tail (λ (x : Row). length x.cell ≡ w) r rows h) in
    let both = length-append r.cell (flat_map (λ (x : Row). x.cell) rows) in
    omega (arith, one, rest, both)

sum-read : (l : Layout) (rows : List Record) → sum (map (λ (r : Row). r.count) (rows_in l rows)) ≡ sum_of l rows
unfolding rows_in
sum-read l rows = ap sum (map_map (λ (r : Row). r.count) (row_in l rows) rows) ∙ sum-map (λ (r : Record). unwrap_or (count_of l.count_place r) 0) rows

pub rows-read : (l : Layout) (rows : List Record) (tally : Tally) → HoldsRecords l rows tally
    → rows_from (length tally.levels.items) tally.cells.items tally.counts.items ≡ rows_in l rows
rows-read l rows tally h =
    ap (λ (ys : List (List Field)). rows_from (length ys) tally.cells.items tally.counts.items) h.levels
    ∙ ap (λ (ns : List ℕ). rows_from (length (levels_of l rows)) ns tally.counts.items) h.cells
    ∙ ap (λ (ns : List ℕ). rows_from (length (levels_of l rows)) (flat_map (λ (r : Row). r.cell) (rows_in l rows)) ns) h.counts
    ∙ rows_from-all (length (levels_of l rows)) (rows_in l rows) (cells-long l rows)

cells-in : (l : Layout) (rows : List Record) → All (λ (r : Row). IsCell (sizes_of (levels_of l rows)) r.cell) (rows_in l rows)
unfolding rows_in
cells-in l rows = All-map (λ (r : Row). IsCell (sizes_of (levels_of l rows)) r.cell) (row_in l rows) rows
    (λ i d lt. cell-in l.places rows (get_or rows i d) (λ place. level_found rows place i d lt))

-- without a fault, they are rows of a table
pub are_rows : (w : ℕ) (l : Layout) (rows : List Record) (tally : Tally) → HoldsRecords l rows tally → tally.sum ≤ 10 ^ 15 → rows_fault w l [] rows ≡ None
    → empty_fault l rows ≡ None
    → AreRows tally.levels.items tally.cells.items tally.counts.items
are_rows w l [] tally h most fine some = absurd (cc some)
are_rows w l (r ∷ rows) tally h most fine some =
    let sums : sum tally.counts.items ≡ sum_of l (r ∷ rows) = ap sum h.counts ∙ sum-read l (r ∷ rows) in
    let held = h.sum in
    let least = sum-some (sum_of l (r ∷ rows)) some in
    record {
      each = subst (λ (ys : List (List Field)). All (λ (zs : List Field). 0 < length zs) ys) (sym h.levels) (some_level l.places r rows);
      few = subst (λ (ys : List (List Field)). cell_count ys ≤ 2 ^ 20) (sym h.levels) (rows_few w l [] r rows fine);
      long =
          ap (λ (ns : List ℕ). length ns) h.cells ∙ flat-length (length (levels_of l (r ∷ rows))) (rows_in l (r ∷ rows)) (cells-long l (r ∷ rows))
          ∙ ap (λ k. length (levels_of l (r ∷ rows)) * k) (sym (ap (λ (ns : List ℕ). length ns) h.counts
          ∙ length-map (rows_in l (r ∷ rows)) (λ (x : Row). x.count)))
          ∙ ap (λ (ys : List (List Field)). length ys * length tally.counts.items) (sym h.levels);
      cells =
          subst (λ (xs : List Row). All (λ (x : Row). IsCell (sizes_of tally.levels.items) x.cell) xs) (sym (rows-read l (r ∷ rows) tally h))
          (subst (λ (ys : List (List Field)). All (λ (x : Row). IsCell (sizes_of ys) x.cell) (rows_in l (r ∷ rows))) (sym h.levels) (cells-in l (r ∷ rows)));
      least = omega (arith, sums, least);
      most = omega (arith, sums, held, most);
    }

pub read_are_rows : (records : List Record) (used : List Field) (count : Option Field) (tally : Tally)
    → HoldsRecords (layout_of (header_of records) used count) (rows_of records) tally → tally.sum ≤ 10 ^ 15
    → records_fault records used count ≡ None → AreRows tally.levels.items tally.cells.items tally.counts.items
unfolding records_fault
read_are_rows records used count tally h most fine =
    let w = length (header_of records) in
    let l = layout_of (header_of records) used count in
    let header = header_fault (header_of records) (used ++ option_to_list count) in
    let (a, behind) = neither_fault header (or_else (rows_fault w l [] (rows_of records)) (empty_fault l (rows_of records))) fine in
    let (rows, some) = neither_fault (rows_fault w l [] (rows_of records)) (empty_fault l (rows_of records)) behind in
    are_rows w l (rows_of records) tally h most rows some

-- what they make is a table
pub are_kept : (used : ℕ) (vertices : List ℕ) (levels : List (List Field)) (numbers counts cells codes : List ℕ) → vertices ≡ members_below (has used) 64
    → 0 < used → used < 2 ^ 64
    → length levels ≡ length vertices → All AreLevels levels → AreRows levels numbers counts → length cells ≡ cell_count levels
    → ((i : ℕ) → i < cell_count levels → get_or cells i 0 ≡ count_at (sizes_of levels) (rows_from (length levels) numbers counts) i)
    → codes ≡ map (code_of_cell (sizes_of levels)) (cells_of (sizes_of levels)) → IsKeptTable used vertices levels cells codes
are_kept used vertices levels numbers counts cells codes members pos small matched differ rows long filled coded =
    let sizes = sizes_of levels in
    let all = total_alike vertices sizes (rows_from (length levels) numbers counts) cells rows.cells long filled
    ∙ total-rows_from (length levels) numbers counts in
    let least = rows.least in
    let most = rows.most in
    record {
      members = members;
      fits = small;
      counted = long;
      coded = coded;
      table = record {
        some = subst (λ (l : List ℕ). 0 < length l) (sym members) (members-pos used pos small);
        in_range = subst (λ (l : List ℕ). All (λ v. v < 64) l) (sym members) (members-below (has used) 64);
        ascending = subst (λ (l : List ℕ). AllPairs (λ u v. u < v) l) (sym members) (members-ascending (has used) 64);
        matched = matched;
        each = rows.each;
        differ = differ;
        few = rows.few;
        cells = cells-rows_with (cells_of sizes) cells (length-cells_of sizes ∙ sym long);
        least = omega (arith, all, least);
        most = omega (arith, all, most);
      };
    }
