-- The cells of a set of vertices, and the place of each.
use Rattle.std.specs.Prelude.{ℕ, ◌≡◌, ◌<◌, ◌≤◌, ◌^◌, List, All, Bool, map, length, slice_index}
use Rattle.std.specs.List.{AllPairs, filter}
use Rattle.count_rows.specs.Vocabulary.{product, Table}
use Rattle.count_table.specs.Cells.{place_of, IsCell}
use Rattle.count_table.specs.Tables.{levels_in}

-- vertices in index order, and how many levels each has
pub record Axes : Type 0 where
  pub vertices : List ℕ
  pub sizes : List ℕ

-- the used vertices of a set, with the numbers of their levels
abbrev pub axes_of : Table → (ℕ → Bool) → Axes
axes_of t of = record { vertices = filter of t.vertices; sizes = map (λ v. length (levels_in t.vertices t.levels v)) (filter of t.vertices) }

-- the cell of an assignment: its level of each vertex
abbrev pub cell_at : Axes → (ℕ → ℕ) → List ℕ
cell_at axes at = map at axes.vertices

-- the place of an assignment's cell among all cells: its levels in mixed radix, that of the first vertex slowest
abbrev pub place_at : Axes → (ℕ → ℕ) → ℕ
place_at axes at = place_of axes.sizes (map at axes.vertices)

-- how many cells there are
abbrev pub cells_over : Axes → ℕ
cells_over axes = product axes.sizes

-- the assignment has one of the levels of each vertex
pub record HasCell (axes : Axes) (at : List ℕ) : Type 0 where
  pub there : All (λ v. v < length at) axes.vertices
  pub cell : IsCell axes.sizes (map (λ v. slice_index at v) axes.vertices)

-- what is true of all axes: the vertices are below 64 and ascend, each has a level, and there are at most 2 ^ 20 cells
pub record AreAxes (axes : Axes) : Type 0 where
  pub matched : length axes.sizes ≡ length axes.vertices
  pub in_range : All (λ v. v < 64) axes.vertices
  pub ascending : AllPairs (λ u v. u < v) axes.vertices
  pub each : All (λ n. 0 < n) axes.sizes
  pub few : product axes.sizes ≤ 2 ^ 20

-- how axes are kept: with the number of cells
pub record AreKeptAxes (kept : Axes) (cells : ℕ) : Type 0 where
  pub axes : AreAxes kept
  pub count : cells ≡ product kept.sizes
