-- Bytes are the text of one table, as far as values hang on it.
use Rattle.std.proofs.Common.{◌≡◌, ℕ, Bool, List, Option, Result, Ok, Err, length, map, refl, sym, ap, ◌∙◌}
use mathlib.Core.Path.{fun_ext}
use Rattle.prob_expr.specs.Vocabulary.{Weights}
use Rattle.count_rows.specs.Vocabulary.{Field, records_of, rows_of, Table, counted, rows_in}
use Rattle.count_table.specs.Vocabulary.{cells_of, levels_in, IsTableOf, layout_in}
use Rattle.count_eval.specs.Vocabulary.{cell_of}
use Rattle.table_cells.specs.Vocabulary.{with_levels, first_cell, level_count}
use Rattle.evaluate_command.specs.Vocabulary.{CellValue}
use Rattle.paired_values.specs.Cells.{printed_cells, second_levels, varied}
use Rattle.paired_values.specs.Readings.{PlainPaired}
use Rattle.paired_values.specs.Values.{AreValuesOver, IsWhyNone, PlainFault, Says, below, kind_in, minus_in, outcome_at, plain_values, stopped, value_in, values_at}
use Rattle.evaluate_command.specs.declared.answer.Values.{Values}
use Rattle.count_eval.specs.declared.failure.EvalFault.{EvalFault}
use Rattle.paired_values.specs.declared.fault.PairFault.{PairFault}
use Rattle.paired_values.specs.declared.fault.PairFault.TheVariants.{Stopped}
use Rattle.paired_values.specs.declared.axes.Axis.{Axis}

-- the values hang on parts of a table
values_of : (is_exact : Bool) (e : PlainPaired) (vertices : List ℕ) (levels : List (List Field)) (weight : (ℕ → Bool) → (ℕ → ℕ) → ℕ)
    → Result (List CellValue) PlainFault
values_of is_exact e vertices levels weight =
    let w : Weights = record { vertices = e.vertices; size = λ v. length (levels_in vertices levels v); weight = λ b a c. weight a c } in
    let axes = varied e.vertices e.x e.given e.y in
    values_at (λ cell. outcome_at (kind_in is_exact) (minus_in is_exact) w e e.reading (cell_of cell) (second_levels e cell))
    (map (with_levels (first_cell 64) (map (λ (a : Axis). a.name) axes))
    (cells_of (map (λ (a : Axis). length (levels_in vertices levels a.vertex)) axes)))

of_table : (is_exact : Bool) (e : PlainPaired) (t : Table) → values_at (value_in is_exact e t) (printed_cells e t)
    ≡ values_of is_exact e t.vertices t.levels (counted t.vertices t.rows)
unfolding values_of
of_table is_exact e t = refl

-- a stop names no cell
stop_or_below : (used : ℕ → Bool) (r : Result (List CellValue) PlainFault) (cell : List ℕ) (fault : EvalFault) (f : PlainFault) → r ≡ Err (below cell) → r ≡ Err f
    → Says used (Stopped fault) f → ⊥
stop_or_below used r cell fault (stopped s) h k says =
    let clash : ◌≡◌ {A = Result (List CellValue) PlainFault} (Err (below cell)) (Err (stopped s)) = sym h ∙ k in cc clash
stop_or_below used r cell fault (below c) h k says = says

module _ (names : List (List ℕ)) (read : ℕ) (bytes : List ℕ) (count : Option Field) (t u : Table) (a : IsTableOf bytes names read count t)
    (b : IsTableOf bytes names read count u) where
  same_vertices : u.vertices ≡ t.vertices
  same_vertices = b.vertices ∙ sym a.vertices

  same_fields : u.levels ≡ t.levels
  same_fields = b.levels ∙ sym a.levels

  -- a vertex has as many levels in both
  pub same_levels : (v : ℕ) → level_count u v ≡ level_count t v
  same_levels v = ap (λ (k : List ℕ). length (levels_in k u.levels v)) same_vertices
      ∙ ap (λ (l : List (List Field)). length (levels_in t.vertices l v)) same_fields

  pub same_values : (is_exact : Bool) (e : PlainPaired) → values_at (value_in is_exact e u) (printed_cells e u)
      ≡ values_at (value_in is_exact e t) (printed_cells e t)
  same_values is_exact e =
      let all = rows_in (layout_in (records_of bytes) names read count) (rows_of (records_of bytes)) in
      let ws : counted u.vertices u.rows ≡ counted t.vertices t.rows =
      fun_ext (λ k. fun_ext (λ s. b.rows k s ∙ ap (λ (v : List ℕ). counted v all k s) same_vertices ∙ sym (a.rows k s))) in
      of_table is_exact e u
      ∙ ap (λ (v : List ℕ). values_of is_exact e v u.levels (counted u.vertices u.rows)) same_vertices
      ∙ ap (λ (l : List (List Field)). values_of is_exact e t.vertices l (counted u.vertices u.rows)) same_fields
      ∙ ap (λ (w : (ℕ → Bool) → (ℕ → ℕ) → ℕ). values_of is_exact e t.vertices t.levels w) ws
      ∙ sym (of_table is_exact e t)

  -- the values of one, and why there are none for the other
  pub all_or_why : (is_exact : Bool) (e : PlainPaired) (values : Values) (fault : PairFault) → AreValuesOver is_exact e t values → IsWhyNone is_exact e u fault → ⊥
  all_or_why is_exact e values fault h k =
      let clash : ◌≡◌ {A = Result (List CellValue) PlainFault} (Ok (plain_values values)) (Err k.0) =
      sym h.evaluated ∙ sym (same_values is_exact e) ∙ k.1 in cc clash

  -- the values of one, and a cell of the other that has none
  pub all_or_below : (is_exact : Bool) (e : PlainPaired) (values : Values) (cell : List ℕ) → AreValuesOver is_exact e t values
      → values_at (value_in is_exact e u) (printed_cells e u) ≡ Err (below cell) → ⊥
  all_or_below is_exact e values cell h k =
      let clash : ◌≡◌ {A = Result (List CellValue) PlainFault} (Ok (plain_values values)) (Err (below cell)) =
      sym h.evaluated ∙ sym (same_values is_exact e) ∙ k in cc clash

  -- a cell of one that has none, and a stop of the other
  pub below_or_stop : (is_exact : Bool) (e : PlainPaired) (cell : List ℕ) (fault : EvalFault)
      → values_at (value_in is_exact e t) (printed_cells e t) ≡ Err (below cell) → IsWhyNone is_exact e u (Stopped fault) → ⊥
  below_or_stop is_exact e cell fault h k = stop_or_below _ (values_at (value_in is_exact e t) (printed_cells e t)) cell fault k.0 h
      (sym (same_values is_exact e) ∙ k.1) k.2
