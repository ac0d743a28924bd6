-- Two tables of the same bytes give the same bounds, crossings and faults.
use Rattle.std.proofs.Common.{◌≡◌, ◌==◌, ℕ, Bool, List, None, Result, Err, cond}
use Rattle.std.specs.Prelude.{length}
use Rattle.std.specs.List.{find}
use Rattle.count_rows.specs.Vocabulary.{Table}
use Rattle.count_table.specs.Vocabulary.{levels_in}
use Rattle.count_eval.specs.Vocabulary.{weights_in, cell_of}
use Rattle.count_answers.proofs.OneReading.{AreAlike}
use Rattle.prob_expr.specs.Vocabulary.{Weights}
use Rattle.natural_bounds.specs.declared.ends.End.TheVariants.{AtLeast, AtMost}
use Rattle.natural_bounds.specs.Vocabulary.{Asked, condition}
use Rattle.bound_values.specs.declared.questions.Question.{Question}
use Rattle.bound_values.specs.declared.questions.Method.{Method}
use Rattle.bound_values.specs.declared.questions.Method.TheVariants.{Instruments, LevelPairs, Adjustment}
use Rattle.bound_values.specs.declared.values.CellBounds.{CellBounds}
use Rattle.bound_values.specs.declared.values.CellFault.{CellFault}
use Rattle.bound_values.specs.declared.values.CellFault.TheVariants.{NoRecords}
use Rattle.table_cells.specs.Vocabulary.{cells_along}
use Rattle.bound_values.specs.Vocabulary.{asked_of, over_table, first_cell, printed_vertices, crossing_vertices, printed_cells, end_value, both_ends, cell_bounds, bounds_at, are_crossed, crossing_in}

-- the bounds at a cell, by weights
abbrev bounds_in : (is_exact : Bool) → Method → Weights → Asked → List ℕ → Result CellBounds CellFault
bounds_in is_exact method w q cell = cond (condition w q (cell_of cell) == 0) (Err (NoRecords cell))
    (both_ends cell (end_value is_exact method AtLeast w q (cell_of cell)) (end_value is_exact method AtMost w q (cell_of cell)))

-- they have the same method
pub same_over : (t u : Table) → AreAlike t u → (q : Question) → over_table u q ≡ over_table t q
same_over t u alike q = λ i. over_table (record { vertices = alike.vertices i; levels = alike.levels i; rows = t.rows }) q

module _ (n : ℕ) (t u : Table) (alike : AreAlike t u) where
  same_weights : weights_in n u ≡ weights_in n t
  same_weights = λ i. record {
    vertices = n;
    size = λ v. length (levels_in (alike.vertices i) (alike.levels i) v);
    weight = λ b a s. alike.sums i a s;
  }

  same_cells : (cell vs : List ℕ) → cells_along u cell vs ≡ cells_along t cell vs
  same_cells cell vs = λ i. cells_along (record { vertices = alike.vertices i; levels = alike.levels i; rows = t.rows }) cell vs

  pub same_crossing : (method : Method) (q : Question) → crossing_in method n u q ≡ crossing_in method n t q
  same_crossing Instruments q =
      λ i. find (λ cell. are_crossed Instruments (same_weights i) (asked_of q) (cell_of cell)) (same_cells first_cell (crossing_vertices q) i)
  same_crossing LevelPairs q =
      λ i. find (λ cell. are_crossed LevelPairs (same_weights i) (asked_of q) (cell_of cell)) (same_cells first_cell (crossing_vertices q) i)
  same_crossing Adjustment q = λ i. None

  pub same_bounds : (is_exact : Bool) (method : Method) (q : Question) → bounds_at (cell_bounds is_exact method n u (asked_of q)) (printed_cells u q)
      ≡ bounds_at (cell_bounds is_exact method n t (asked_of q)) (printed_cells t q)
  same_bounds is_exact method q =
      λ i. bounds_at (bounds_in is_exact method (same_weights i) (asked_of q)) (same_cells first_cell (printed_vertices q) i)
