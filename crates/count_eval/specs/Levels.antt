-- A level of each vertex that is used.
use Rattle.std.specs.Prelude.{ℕ, ◌<◌, IsTrue, List, length, slice_index}
use Rattle.count_rows.specs.Vocabulary.{Table}
use Rattle.count_table.specs.Vocabulary.{levels_in}
use Rattle.count_eval.specs.Programs.{is_used}

-- where the vertex is used, the cell has one of its levels
abbrev pub HasLevel : Table → List ℕ → ℕ → Type 0
HasLevel t at v = IsTrue (is_used t v) → (v < length at) × (slice_index at v < length (levels_in t.vertices t.levels v))
