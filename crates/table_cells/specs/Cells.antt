-- The cells of a table along some of its vertices.
use Rattle.std.specs.Prelude.{ℕ, ◌≡◌, List, [], ◌∷◌, map, length, set, replicate, false, slice_index}
use Rattle.count_rows.specs.Vocabulary.{Table}
use Rattle.count_table.specs.Vocabulary.{cells_of, levels_in, HasLevels}
use Rattle.count_eval.specs.Vocabulary.{is_used}

-- how many levels a vertex has
abbrev pub level_count : Table → ℕ → ℕ
level_count t v = length (levels_in t.vertices t.levels v)

-- the cell with these numbers of levels at these vertices
abbrev pub with_levels : List ℕ → List ℕ → List ℕ → List ℕ
with_levels cell [] ks = cell
with_levels cell (v ∷ vs) [] = cell
with_levels cell (v ∷ vs) (k ∷ ks) = with_levels (set cell v k) vs ks

-- all cells that differ from this one at most in these vertices, in order: each level of each, those of the first vertex slowest
abbrev pub cells_along : Table → List ℕ → List ℕ → List (List ℕ)
cells_along t cell vs = map (with_levels cell vs) (cells_of (map (level_count t) vs))

-- the first level of each of n vertices
abbrev pub first_cell : ℕ → List ℕ
first_cell n = replicate n 0

-- a cell of n vertices: a level of each used one, and 0 for each other
pub record IsCell (n : ℕ) (t : Table) (cell : List ℕ) : Type 0 where
  pub long : length cell ≡ n
  pub levels : HasLevels t (is_used t) cell
  pub others : (v : ℕ) → is_used t v ≡ false → slice_index cell v ≡ 0
