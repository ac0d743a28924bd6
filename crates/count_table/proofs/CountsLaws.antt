-- What the levels and rows of a table say of its codes.
use Rattle.std.proofs.Common.{ℕ, zero, suc, ◌≡◌, ◌<◌, Bool, cond, eqb, IsTrue, List, [], ◌∷◌, length, get_or, map, All, refl, sym, ap, subst, ◌∙◌}
use Rattle.std.proofs.Common.{arith, bit_and}
use Rattle.std.specs.List.{AllPairs}
use Rattle.std.proofs.lemmas.List.{get_or-map, length-map}
use Rattle.std.proofs.lemmas.Bool.{eq-eqb, ne_eqb}
use Rattle.count_rows.specs.Vocabulary.{Field, Row, Table, agrees}
use Rattle.count_table.specs.Cells.{cells_of, sizes_of, IsCell}
use Rattle.count_table.specs.Codes.{code_of_cell, mask_under, code_under}
use Rattle.count_table.specs.Tables.{levels_in, AreCounts, HasLevels}
use Rattle.count_table.proofs.CellLists.{cells_of-are}
use Rattle.count_table.proofs.CodeLaws.{codes_tell}
use Rattle.count_table.proofs.TableSteps.{AreFew, sized-few, below_from}

ascending-tail : (v : ℕ) (vs : List ℕ) → AllPairs (λ a b. a < b) (v ∷ vs) → AllPairs (λ a b. a < b) vs
ascending-tail v vs h i j d less long = h (suc i) (suc j) d (omega arith) (omega arith)

-- the levels of the vertex with the index i
pub levels_in-at : (vs : List ℕ) (levels : List (List Field)) (i : ℕ) → AllPairs (λ a b. a < b) vs → i < length vs → length levels ≡ length vs
    → levels_in vs levels (get_or vs i 0) ≡ get_or levels i []
levels_in-at [] levels i h lt same = absurd (omega arith)
levels_in-at (v ∷ vs) [] i h lt same = absurd (omega arith)
levels_in-at (v ∷ vs) (ys ∷ levels) zero h lt same = ap (λ (b : Bool). cond b ys (levels_in vs levels v)) (eq-eqb v v refl)
levels_in-at (v ∷ vs) (ys ∷ levels) (suc i) h lt same =
    let apart : v < get_or vs i 0 = h zero (suc i) 0 (omega arith) (omega arith) in
    ap (λ (b : Bool). cond b ys (levels_in vs levels (get_or vs i 0))) (ne_eqb v (get_or vs i 0) (λ e. omega (arith, apart, e)))
    ∙ levels_in-at vs levels i (ascending-tail v vs h) (omega arith) (omega arith)

-- the values of the members of a set, by index
pub by_index : (t : Table) (of : ℕ → Bool) (at : List ℕ) → AreCounts t → HasLevels t of at → (i : ℕ) → i < length t.vertices
    → IsTrue (of (get_or t.vertices i 0))
    → (get_or t.vertices i 0 < length at) × (get_or at (get_or t.vertices i 0) 0 < get_or (sizes_of t.levels) i 0)
by_index t of at are has i lt member =
    let (within, below) = has (get_or t.vertices i 0) member in
    let same = ap (λ (ys : List Field). length ys) (levels_in-at t.vertices t.levels i are.ascending lt are.matched) in
    let matched = are.matched in
    let size = get_or-map (λ (ys : List Field). length ys) t.levels i [] 0 (omega (arith, lt, matched)) in
    (within, omega (arith, below, same, size))

rows-are : (P : List ℕ → Type 0) (rows : List Row) (cells : List (List ℕ)) → map (λ (r : Row). r.cell) rows ≡ cells → All P cells
    → All (λ (r : Row). P r.cell) rows
rows-are P rows cells e h i d lt =
    let long = ap (λ (l : List (List ℕ)). length l) e in
    let same = length-map rows (λ (r : Row). r.cell) in
    subst P (ap (λ (l : List (List ℕ)). get_or l i d.cell) (sym e) ∙ get_or-map (λ (r : Row). r.cell) rows i d d.cell lt)
    (h i d.cell (omega (arith, lt, long, same)))

-- under the mask of a set, the codes of the rows that agree with an assignment on it are the assignment's code, and no others
pub rows_tell : (t : Table) (of : ℕ → Bool) (at : List ℕ) → AreCounts t → HasLevels t of at
    → All (λ (r : Row). eqb (bit_and (code_of_cell (sizes_of t.levels) r.cell) (mask_under t.vertices (sizes_of t.levels) of))
    (code_under t.vertices (sizes_of t.levels) of (λ v. get_or at v 0)) ≡ agrees t.vertices r.cell of (λ v. get_or at v 0)) t.rows
rows_tell t of at are has i d lt =
    let few : AreFew t.levels = record { each = are.each; few = are.few } in
    let below = below_from t.vertices (sizes_of t.levels) of (λ v. get_or at v 0) (λ j less member. (by_index t of at are has j less member).1) in
    codes_tell t.vertices (sizes_of t.levels) (get_or t.rows i d).cell of (λ v. get_or at v 0) (sized-few t.levels few)
    (rows-are (IsCell (sizes_of t.levels)) t.rows (cells_of (sizes_of t.levels)) are.cells (cells_of-are (sizes_of t.levels)) i d lt) below
