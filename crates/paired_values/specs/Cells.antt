-- The cells at which there are values: levels of names and primed names.
use Rattle.std.specs.Prelude.{ℕ, ◌≡◌, ◌<◌, true, false, List, ◌++◌, map, length, slice_index}
use Rattle.mixed_graph.specs.Vocabulary.{has, members_below}
use Rattle.count_rows.specs.Vocabulary.{Table}
use Rattle.count_table.specs.Vocabulary.{cells_of, levels_in}
use Rattle.count_eval.specs.Vocabulary.{cell_of, is_used}
use Rattle.table_cells.specs.Vocabulary.{first_cell, level_count, with_levels}
use Rattle.treated_models.specs.Vocabulary.{as_observed, name_count, prime_of, vertex_of}
use Rattle.paired_values.specs.Readings.{PlainPaired}
use Rattle.paired_values.specs.declared.axes.Axis.{Axis}

-- each member of a set at its own name
abbrev pub own_axes : ℕ → List Axis
own_axes set = map (λ v. record { vertex = v; name = v }) (members_below (has set) 64)

-- each member of x at its primed name, among the names of n vertices
abbrev pub observed_axes : (n x : ℕ) → List Axis
observed_axes n x = map (λ v. record { vertex = v; name = prime_of n x v }) (members_below (has x) 64)

-- x at its own names, then x at its primed names, what is given, and y, each in index order
abbrev pub varied : (n x given y : ℕ) → List Axis
varied n x given y = own_axes x ++ (observed_axes n x ++ (own_axes given ++ own_axes y))

-- all cells that differ from this one at most at these names, in order: each level of each vertex, those of the first slowest
abbrev pub cells_at : Table → List ℕ → List Axis → List (List ℕ)
cells_at t cell axes = map (with_levels cell (map (λ a. a.name) axes)) (cells_of (map (λ a. level_count t a.vertex) axes))

-- the printed cells: all levels of x, all second levels of x, all levels of what is given and of y, and the first level of each other vertex
abbrev pub printed_cells : PlainPaired → Table → List (List ℕ)
printed_cells e t = cells_at t (first_cell 64) (varied e.vertices e.x e.given e.y)

-- the second levels in a cell of names: x has those at its primed names
abbrev pub second_levels : PlainPaired → List ℕ → ℕ → ℕ
second_levels e cell = as_observed e.vertices e.x (cell_of cell)

-- the names' own levels, and at primed names those that were observed: each name whose vertex is used has a level of it
abbrev pub HaveLevels : (n x : ℕ) → Table → List ℕ → Type 0
HaveLevels n x t cell = (k : ℕ) → k < name_count n x → is_used t (vertex_of n x k) ≡ true
    → slice_index cell k < length (levels_in t.vertices t.levels (vertex_of n x k))

-- a cell of names: a level for each whose vertex is used, and 0 for each other
pub record IsNameCell (n x : ℕ) (t : Table) (cell : List ℕ) : Type 0 where
  pub long : length cell ≡ 64
  pub levels : HaveLevels n x t cell
  pub others : (k : ℕ) → k < name_count n x → is_used t (vertex_of n x k) ≡ false → slice_index cell k ≡ 0

-- its name is one of its vertex, among the names of n vertices and the primed names of x
pub record IsAxis (n x : ℕ) (a : Axis) : Type 0 where
  pub low : a.name < name_count n x
  pub vertex : vertex_of n x a.name ≡ a.vertex
