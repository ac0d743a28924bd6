-- Sums of a table's counts: one for each cell of a set, and that for several sets.
use Rattle.std.specs.Prelude.{ℕ, ◌≡◌, ◌+◌, ◌==◌, ◌||◌, ◌++◌, ◌∷◌, [], List, All, Bool, not, nat_le, if◌then◌else◌, map, length, slice_index, sum_by}
use Rattle.std.specs.List.{list_any}
use Rattle.mixed_graph.specs.Vocabulary.{has}
use Rattle.count_rows.specs.Vocabulary.{Table, counted}
use Rattle.count_table.specs.Cells.{IsCell}
use Rattle.count_table.specs.Axes.{Axes, axes_of, cell_at, place_at, cells_over}

-- at the place of each cell of the set, the sum of the counts of the rows that agree with it on the set
pub record AreSums (t : Table) (of : ℕ → Bool) (sums : List ℕ) : Type 0 where
  pub long : length sums ≡ cells_over (axes_of t of)
  pub each : (at : ℕ → ℕ) → IsCell (axes_of t of).sizes (cell_at (axes_of t of) at) → slice_index sums (place_at (axes_of t of) at)
      ≡ counted t.vertices t.rows of at

-- a table of counts, and a set as a mask
pub record Margin : Type 0 where
  pub table : Table
  pub set : ℕ

-- how the sums over a set are kept: with the places of its cells
pub record IsMargin (t : Table) (set : ℕ) (axes : Axes) (kept : List ℕ) : Type 0 where
  pub places : axes ≡ axes_of t (has set)
  pub sums : AreSums t (has set) kept

-- a table of counts, and the sets over which there are sums of it, as masks
pub record Margins : Type 0 where
  pub table : Table
  pub sets : List ℕ

-- how many cells a set has
abbrev pub cells_under : Table → ℕ → ℕ
cells_under t set = cells_over (axes_of t (has set))

-- how many cells all these sets have together
abbrev pub cells_in : Margins → ℕ
cells_in m = sum_by (cells_under m.table) m.sets

-- the sets once sums over one more are asked for: it is added unless it is there, or all cells would be more than `most`
abbrev pub sets_with : Margins → ℕ → ℕ → List ℕ
sets_with m set most = if list_any (λ s. s == set) m.sets || not (nat_le (cells_in m + cells_under m.table set) most) then m.sets else m.sets ++ set ∷ []

-- how sums over several sets are kept: each is of the same table of counts, and so many cells they have together
pub record AreMargins (t : Table) (kept : List Margin) (cells : ℕ) : Type 0 where
  pub tables : All (λ m. m.table ≡ t) kept
  pub together : cells ≡ cells_in (record { table = t; sets = map (λ m. m.set) kept })
