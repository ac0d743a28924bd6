-- What is true of the cells of a table.
use Rattle.std.specs.Prelude.{ℕ, ◌≡◌, ◌<◌, List, [], ◌∷◌, set, true, flat_map, All}
use Rattle.std.specs.List.{range_with_len}
use Rattle.count_rows.specs.Vocabulary.{Table}
use Rattle.count_eval.specs.Vocabulary.{is_used}
use Rattle.table_cells.specs.Cells.{IsCell, level_count, cells_along, first_cell}

-- where the used vertices are below n, the first level of each is a cell
abbrev pub FirstIsCell : Type 0
FirstIsCell = (n : ℕ) (t : Table) → ((v : ℕ) → is_used t v ≡ true → v < n) → IsCell n t (first_cell n)

-- a cell with another level of a used vertex is one
abbrev pub ChangedIsCell : Type 0
ChangedIsCell = (n : ℕ) (t : Table) (cell : List ℕ) (v k : ℕ) → IsCell n t cell → is_used t v ≡ true → k < level_count t v → IsCell n t (set cell v k)

-- the cells along some vertices are those for each level of the first vertex in turn
abbrev pub CellsByFirst : Type 0
CellsByFirst = (t : Table) (cell : List ℕ) (v : ℕ) (vs : List ℕ)
    → cells_along t cell (v ∷ vs) ≡ flat_map (λ k. cells_along t (set cell v k) vs) (range_with_len 0 (level_count t v))

-- those along used vertices are cells
abbrev pub EachAlongIsCell : Type 0
EachAlongIsCell = (n : ℕ) (t : Table) (cell vs : List ℕ) → IsCell n t cell → All (λ v. is_used t v ≡ true) vs → All (IsCell n t) (cells_along t cell vs)
