-- Cross differences of counts: how far two vertices are from being independent given some others.
use Rattle.std.specs.Prelude.{ℕ, ◌≡◌, ◌≢◌, ◌<◌, ◌≤◌, ◌*◌, ◌||◌, Bool, false, ◌∷◌, All, IsTrue, map, length, slice_index, ℤ, pos, ◌-ℤ◌}
use Rattle.std.specs.List.{filter}
use Rattle.std.specs.Int.{abs_diff}
use Rattle.mixed_graph.specs.Vocabulary.{has}
use Rattle.count_rows.specs.Vocabulary.{Table, counted}
use Rattle.count_table.specs.Vocabulary.{IsCell, levels_in, HasCell, cell_at, place_at}
use Rattle.count_eval.specs.Vocabulary.{is_used, cell_of}
use Rattle.count_table.specs.Axes.{Axes}
use Rattle.implications.specs.declared.pairs.Implication.{Implication}
use Rattle.implications.specs.Vocabulary.{only}
use Rattle.implied_differences.specs.declared.largest.Difference.{Difference}

-- the pair and what is given
abbrev pub whole_of : Implication → ℕ → Bool
whole_of i v = only i.a v || (only i.b v || has i.given.bits v)

-- its first vertex and what is given
abbrev pub first_of_pair : Implication → ℕ → Bool
first_of_pair i v = only i.a v || has i.given.bits v

-- its second vertex and what is given
abbrev pub second_of_pair : Implication → ℕ → Bool
second_of_pair i v = only i.b v || has i.given.bits v

-- N(a,b,W) N(W) at an assignment, where N is the sum of the counts that agree with it
abbrev pub left : Table → Implication → (ℕ → ℕ) → ℕ
left t i s = counted t.vertices t.rows (whole_of i) s * counted t.vertices t.rows (has i.given.bits) s

-- N(a,W) N(b,W)
abbrev pub right : Table → Implication → (ℕ → ℕ) → ℕ
right t i s = counted t.vertices t.rows (first_of_pair i) s * counted t.vertices t.rows (second_of_pair i) s

-- the cross difference
abbrev pub difference : Table → Implication → (ℕ → ℕ) → ℤ
difference t i s = pos (left t i s) -ℤ pos (right t i s)

-- its absolute value
abbrev pub distance : Table → Implication → (ℕ → ℕ) → ℕ
distance t i s = abs_diff (left t i s) (right t i s)

-- the table has levels of a, b and what is given; a is below b, and neither is given
pub record IsReadable (t : Table) (i : Implication) : Type 0 where
  pub order : i.a < i.b
  pub used : (v : ℕ) → IsTrue (whole_of i v) → IsTrue (is_used t v)
  pub a_apart : has i.given.bits i.a ≡ false
  pub b_apart : has i.given.bits i.b ≡ false

-- the vertices in the order of the cells: a slowest, then b, then those given in index order; with the numbers of their levels
abbrev pub axes_in : Table → Implication → Axes
axes_in t i = record {
  vertices = i.a ∷ i.b ∷ filter (has i.given.bits) t.vertices;
  sizes = map (λ v. length (levels_in t.vertices t.levels v)) (i.a ∷ i.b ∷ filter (has i.given.bits) t.vertices);
}

-- the difference at a cell, the first in order of those where its absolute value is greatest; the cell is 0 at each other vertex
pub record IsLargest (t : Table) (i : Implication) (d : Difference) : Type 0 where
  pub cell : HasCell (axes_in t i) d.cell
  pub outside : (v : ℕ) → All (λ u. u ≢ v) (axes_in t i).vertices → slice_index d.cell v ≡ 0
  pub value : d.value ≡ difference t i (cell_of d.cell)
  pub greatest : (s : ℕ → ℕ) → IsCell (axes_in t i).sizes (cell_at (axes_in t i) s) → distance t i s ≤ distance t i (cell_of d.cell)
  pub first : (s : ℕ → ℕ) → IsCell (axes_in t i).sizes (cell_at (axes_in t i) s) → place_at (axes_in t i) s < place_at (axes_in t i) (cell_of d.cell)
      → distance t i s < distance t i (cell_of d.cell)
