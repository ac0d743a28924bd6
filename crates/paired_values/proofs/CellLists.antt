-- Lists of cells along names.
use Rattle.std.proofs.Common.{◌≡◌, ℕ, ◌+◌, ◌<◌, ◌≤◌, zero, suc, List, [], ◌∷◌, All, map, length, set, get_or, drop, refl, sym, ap, subst, ◌∙◌, arith}
use Rattle.std.specs.List.{flat_map, range_with_len}
use Rattle.std.proofs.lemmas.List.Elements.{All-nil, All-cons, All-head, All-tail, All-append}
use Rattle.count_rows.specs.Vocabulary.{Table}
use Rattle.count_table.specs.Vocabulary.{cells_of}
use Rattle.table_cells.specs.Vocabulary.{level_count}
use Rattle.table_cells.proofs.CellLists.{each_number, numbers_more}
use Rattle.paired_values.specs.Cells.{IsAxis, IsNameCell, cells_at}
use Rattle.treated_models.specs.Vocabulary.{name_count}
use Rattle.paired_values.specs.declared.axes.Axis.{Axis}
use Rattle.paired_values.proofs.NameCells.{set_is_name_cell}

-- no name varies
cells_none : (t : Table) (cell : List ℕ) → cells_at t cell [] ≡ cell ∷ []
unfolding cells_of
cells_none t cell = refl

-- the cells by the level at the first name
cells_first : (t : Table) (cell : List ℕ) (a : Axis) (axes : List Axis) → cells_at t cell (a ∷ axes)
    ≡ flat_map (λ k. cells_at t (set cell a.name k) axes) (range_with_len 0 (level_count t a.vertex))
unfolding cells_of
cells_first t cell a axes = each_number cell a.name (map (λ (b : Axis). b.name) axes) (cells_of (map (λ (b : Axis). level_count t b.vertex) axes))
    (range_with_len 0 (level_count t a.vertex))

pub cells_at_none : (t : Table) (cell : List ℕ) (axes : List Axis) → length axes < 1 → cells_at t cell axes ≡ cell ∷ []
cells_at_none t cell [] lt = cells_none t cell
cells_at_none t cell (a ∷ axes) lt = absurd (omega (arith, lt))

-- the first and the others
pub cells_at_first : (t : Table) (cell : List ℕ) (axes : List Axis) (d : Axis) → 1 ≤ length axes
    → cells_at t cell axes
    ≡ flat_map (λ k. cells_at t (set cell (get_or axes 0 d).name k) (drop 1 axes)) (range_with_len 0 (level_count t (get_or axes 0 d).vertex))
cells_at_first t cell [] d some = absurd (omega (arith, some))
cells_at_first t cell (a ∷ axes) d some = cells_first t cell a axes

-- all levels at the first name, each with the cells along the others
pub cells_all : (t : Table) (cell : List ℕ) (axes rest : List Axis) (d : Axis) (k : ℕ) → 1 ≤ length axes → rest ≡ drop 1 axes
    → k ≡ level_count t (get_or axes 0 d).vertex
    → flat_map (λ j. cells_at t (set cell (get_or axes 0 d).name j) rest) (range_with_len 0 k) ≡ cells_at t cell axes
cells_all t cell axes rest d k some is end =
    ap (λ (r : List Axis). flat_map (λ j. cells_at t (set cell (get_or axes 0 d).name j) r) (range_with_len 0 k)) is
    ∙ ap (λ n. flat_map (λ j. cells_at t (set cell (get_or axes 0 d).name j) (drop 1 axes)) (range_with_len 0 n)) end
    ∙ sym (cells_at_first t cell axes d some)

-- what is so of each list is so of all
each_of : {A : Type 0} (P : A → Type 0) (f : ℕ → List A) (k : ℕ) → ((j : ℕ) → j < k → All P (f j)) → All P (flat_map f (range_with_len 0 k))
each_of P f zero each = All-nil P
each_of P f (suc k) each =
    subst (λ n. All P (flat_map f (range_with_len 0 n))) {x = k + 1} {y = suc k} (omega arith)
    (subst (All P) (sym (numbers_more f k))
    (All-append P (flat_map f (range_with_len 0 k)) (f k) (each_of P f k (λ j lt. each j (omega (arith, lt)))) (each k (omega arith))))

-- the cells are cells of names
pub cells_are : (n x : ℕ) (t : Table) → name_count n x ≤ 64 → (axes : List Axis) → All (IsAxis n x) axes → (cell : List ℕ) → IsNameCell n x t cell
    → All (IsNameCell n x t) (cells_at t cell axes)
cells_are n x t few [] all cell is = subst (All (IsNameCell n x t)) (sym (cells_none t cell)) (All-cons (IsNameCell n x t) cell [] is (All-nil (IsNameCell n x t)))
cells_are n x t few (a ∷ axes) all cell is = subst (All (IsNameCell n x t)) (sym (cells_first t cell a axes))
    (each_of (IsNameCell n x t) (λ k. cells_at t (set cell a.name k) axes) (level_count t a.vertex)
    (λ k lt. cells_are n x t few axes (All-tail (IsAxis n x) a axes all) (set cell a.name k)
    (set_is_name_cell n x t cell a k few is (All-head (IsAxis n x) a axes all) lt)))
