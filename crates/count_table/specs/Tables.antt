-- A table of counts: its levels, and one row for each cell.
use Rattle.std.specs.Prelude.{ℕ, ◌≡◌, ◌<◌, ◌≤◌, ◌*◌, ◌^◌, ◌==◌, List, [], ◌∷◌, All, Bool, IsTrue, map, length, sum, slice_index, if◌then◌else◌}
use Rattle.std.specs.List.{AllPairs}
use Rattle.mixed_graph.specs.Vocabulary.{has, members_below}
use Rattle.count_rows.specs.Vocabulary.{Field, cell_count, AreLevels, Table}
use Rattle.count_table.specs.Cells.{cells_of, sizes_of, total, rows_with, rows_from, IsCell}
use Rattle.count_table.specs.Codes.{code_of_cell}

-- the levels of a vertex; one that isn't used has none
abbrev pub levels_in : List ℕ → List (List Field) → ℕ → List Field
levels_in [] levels v = []
levels_in (u ∷ us) [] v = []
levels_in (u ∷ us) (ys ∷ levels) v = if u == v then ys else levels_in us levels v

-- What is true of each table: a vertex is used, and each used one has a level; levels differ; there are at most 2 ^ 20 cells,
-- each with one row, in order; the counts come to 1 up to 10 ^ 15.
pub record AreCounts (t : Table) : Type 0 where
  pub some : 0 < length t.vertices
  pub in_range : All (λ v. v < 64) t.vertices
  pub ascending : AllPairs (λ u v. u < v) t.vertices
  pub matched : length t.levels ≡ length t.vertices
  pub each : All (λ ys. 0 < length ys) t.levels
  pub differ : All AreLevels t.levels
  pub few : cell_count t.levels ≤ 2 ^ 20
  pub cells : map (λ r. r.cell) t.rows ≡ cells_of (sizes_of t.levels)
  pub least : 1 ≤ total t.rows
  pub most : total t.rows ≤ 10 ^ 15

-- each vertex of the set is used, and has one of its levels
abbrev pub HasLevels : Table → (ℕ → Bool) → List ℕ → Type 0
HasLevels t of at = (v : ℕ) → IsTrue (of v) → (v < length at) × (slice_index at v < length (levels_in t.vertices t.levels v))

-- how a table is kept: the used vertices as a mask of 64 bits and in index order, the levels of each, and a count and a code for each cell
pub record IsKeptTable (used : ℕ) (vertices : List ℕ) (levels : List (List Field)) (cells codes : List ℕ) : Type 0 where
  pub members : vertices ≡ members_below (has used) 64
  pub fits : used < 2 ^ 64
  pub counted : length cells ≡ cell_count levels
  pub coded : codes ≡ map (code_of_cell (sizes_of levels)) (cells_of (sizes_of levels))
  pub table : AreCounts (record { vertices = vertices; levels = levels; rows = rows_with (cells_of (sizes_of levels)) cells })

-- rows that a table is made of: their cells stand one behind the other, and their counts come to 1 up to 10 ^ 15
pub record AreRows (levels : List (List Field)) (numbers counts : List ℕ) : Type 0 where
  pub each : All (λ ys. 0 < length ys) levels
  pub few : cell_count levels ≤ 2 ^ 20
  pub long : length numbers ≡ length levels * length counts
  pub cells : All (λ r. IsCell (sizes_of levels) r.cell) (rows_from (length levels) numbers counts)
  pub least : 1 ≤ sum counts
  pub most : sum counts ≤ 10 ^ 15
