-- The cells of a table at which bounds are asked for.
use Rattle.std.specs.Prelude.{ℕ, List, ◌++◌, replicate}
use Rattle.mixed_graph.specs.Vocabulary.{has, members_below}
use Rattle.count_rows.specs.Vocabulary.{Table}
use Rattle.table_cells.specs.Vocabulary.{cells_along}
use Rattle.bound_values.specs.declared.questions.Question.{Question}

-- the members of x, then those of what is given, then those of y, each in index order
abbrev pub printed_vertices : Question → List ℕ
printed_vertices q = (members_below (has q.x.bits) 64 ++ members_below (has q.given.bits) 64) ++ members_below (has q.y.bits) 64

-- and then those of the strata
abbrev pub crossing_vertices : Question → List ℕ
crossing_vertices q = printed_vertices q ++ members_below (has q.strata.bits) 64

-- the first level of each vertex
unfoldable pub first_cell : List ℕ
first_cell = replicate 64 0

-- the printed cells: all levels of x, of what is given and of y, and the first level of each other vertex
abbrev pub printed_cells : Table → Question → List (List ℕ)
printed_cells t q = cells_along t first_cell (printed_vertices q)

-- the cells in whose strata bounds may cross
abbrev pub crossing_cells : Table → Question → List (List ℕ)
crossing_cells t q = cells_along t first_cell (crossing_vertices q)
