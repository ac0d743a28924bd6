-- What is so of the values at the printed cells.
use Rattle.std.proofs.Common.{◌≡◌, ℕ, Bool, List, Option, Some, None, Result, Ok, Err, All, ap, sym, ◌∙◌}
use Rattle.std.specs.Global.{Vec}
use Rattle.quantity.specs.Kinds.{Pair, pair}
use Rattle.count_rows.specs.Vocabulary.{Table}
use Rattle.count_eval.specs.Stops.{Stop}
use Rattle.count_eval.specs.Vocabulary.{after, cell_of, is_used, weights_in}
use Rattle.evaluate_command.specs.Vocabulary.{CellValue}
use Rattle.evaluate_command.specs.declared.answer.Values.{Values}
use Rattle.factor_values.specs.Vocabulary.{PlainFactors, factors_outcome}
use Rattle.prob_expr.specs.Vocabulary.{PlainFormula}
use Rattle.split_values.specs.Vocabulary.{split_outcome}
use Rattle.table_cells.specs.Vocabulary.{first_cell}
use Rattle.paired_values.specs.Cells.{IsNameCell, printed_cells, second_levels, varied}
use Rattle.paired_values.specs.Readings.{IsOver, PlainPaired, by_factors, by_split}
use Rattle.paired_values.specs.Values.{AreValuesOver, IsBelow, IsWhyNone, PlainFault, Says, below, kind_in, minus_in, outcome_at, plain_values, stopped, value_in, values_at}
use Rattle.paired_values.specs.declared.fault.PairFault.{PairFault}
use Rattle.paired_values.specs.declared.fault.PairFault.TheVariants.{Stopped, Below}
use Rattle.paired_values.proofs.CellLists.{cells_are}
use Rattle.paired_values.proofs.NameCells.{first_is_name_cell, varied_are}
use Rattle.paired_values.proofs.Walks.{each_valued, named_below}

abbrev quantity_in : Result (Option Pair) Stop → Result Pair Stop
quantity_in (Ok (Some q)) = Ok q
quantity_in (Ok None) = Ok (pair 0 0)
quantity_in (Err s) = Err s

-- a value of factors
some_of : (r : Result Pair Stop) (q : Pair) → after r (λ p. Ok (Some p)) ≡ Ok (Some q) → r ≡ Ok q
some_of (Ok p) q e = ap quantity_in e
some_of (Err s) q e = absurd (cc e)

some_alone : (r : Result Pair Stop) → after r (λ p. Ok (Some p)) ≡ Ok None → ⊥
some_alone (Ok p) e = cc e
some_alone (Err s) e = cc e

-- factors give a value, or a stop
pub from_factors : (is_exact : Bool) (e : PlainPaired) (t : Table) (f : PlainFactors) → e.reading ≡ by_factors f → (cell : List ℕ) (q : Pair)
    → value_in is_exact e t cell ≡ Ok (Some q)
    → factors_outcome (kind_in is_exact) (weights_in e.vertices t) f (cell_of cell) (second_levels e cell) ≡ Ok q
from_factors is_exact e t f is cell q h =
    some_of (factors_outcome (kind_in is_exact) (weights_in e.vertices t) f (cell_of cell) (second_levels e cell)) q
    (ap (λ r. outcome_at (kind_in is_exact) (minus_in is_exact) (weights_in e.vertices t) e r (cell_of cell) (second_levels e cell)) (sym is) ∙ h)

-- by two levels there is what the two levels give
pub from_split : (is_exact : Bool) (e : PlainPaired) (t : Table) (joint : PlainFormula) → e.reading ≡ by_split joint → (cell : List ℕ)
    (r : Result (Option Pair) Stop) → value_in is_exact e t cell ≡ r
    → split_outcome (kind_in is_exact) (minus_in is_exact) (weights_in e.vertices t) e.x e.y e.given joint (cell_of cell) (second_levels e cell) ≡ r
from_split is_exact e t joint is cell r h =
    ap (λ k. outcome_at (kind_in is_exact) (minus_in is_exact) (weights_in e.vertices t) e k (cell_of cell) (second_levels e cell)) (sym is) ∙ h

pub never_below : (is_exact : Bool) (e : PlainPaired) (t : Table) (f : PlainFactors) → e.reading ≡ by_factors f → (cell : List ℕ)
    → value_in is_exact e t cell ≡ Ok None → ⊥
never_below is_exact e t f is cell h =
    some_alone (factors_outcome (kind_in is_exact) (weights_in e.vertices t) f (cell_of cell) (second_levels e cell))
    (ap (λ r. outcome_at (kind_in is_exact) (minus_in is_exact) (weights_in e.vertices t) e r (cell_of cell) (second_levels e cell)) (sym is) ∙ h)

module _ (is_exact : Bool) (e : PlainPaired) (t : Table) (over : IsOver e t) where
  printed_are : All (IsNameCell e.vertices e.x t) (printed_cells e t)
  printed_are = cells_are e.vertices e.x t over.few (varied e.vertices e.x e.given e.y) (varied_are e.vertices e.x e.y e.given over.sets) (first_cell 64)
      (first_is_name_cell e.vertices e.x t)

  -- each value is that of its cell, which is a cell of names
  pub each_value : (values : Values) → AreValuesOver is_exact e t values
      → All (λ v. IsNameCell e.vertices e.x t v.cell × (value_in is_exact e t v.cell ≡ Ok (Some v.quantity))) (plain_values values)
  each_value values h = each_valued (value_in is_exact e t) (IsNameCell e.vertices e.x t) (printed_cells e t) printed_are (plain_values values) h.evaluated

  -- a cell that is named has no value
  pub each_below : (cell : List ℕ) → values_at (value_in is_exact e t) (printed_cells e t) ≡ Err (below cell)
      → IsNameCell e.vertices e.x t cell × (value_in is_exact e t cell ≡ Ok None)
  each_below cell h = named_below (value_in is_exact e t) (IsNameCell e.vertices e.x t) (printed_cells e t) printed_are cell h

-- the fault that names a cell is that of the cells
named_cell : (used : ℕ → Bool) (r : Result (List CellValue) PlainFault) (c : Vec ℕ) (f : PlainFault) → r ≡ Err f → Says used (Below c) f → r ≡ Err (below c.items)
named_cell used r c (stopped s) e says = absurd says
named_cell used r c (below d) e says = e ∙ ap (λ (k : List ℕ). Err (below k)) (sym says)

pub why_below : (is_exact : Bool) (e : PlainPaired) (t : Table) (fault : PairFault) → IsWhyNone is_exact e t fault → (cell : List ℕ) → IsBelow cell fault
    → values_at (value_in is_exact e t) (printed_cells e t) ≡ Err (below cell)
why_below is_exact e t (Stopped fault) h cell is = absurd is
why_below is_exact e t (Below c) h cell is =
    named_cell (is_used t) (values_at (value_in is_exact e t) (printed_cells e t)) c h.0 h.1 h.2 ∙ ap (λ (k : List ℕ). Err (below k)) is
