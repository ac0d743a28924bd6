-- The values at cells, in order; or the first cell that has none, and why.
use Rattle.std.specs.Prelude.{ℕ, ◌≡◌, Bool, true, false, List, [], ◌∷◌, Option, Some, None, Result, Ok, Err}
use Rattle.fractions.specs.Vocabulary.{Fraction}
use Rattle.quantity.specs.Exacts.{exact}
use Rattle.quantity.specs.Intervals.{Encloses, bounds}
use Rattle.quantity.specs.Kinds.{Pair}
use Rattle.quantity.specs.Vocabulary.{Covers, Equals, Kind}
use Rattle.differences.specs.Kinds.{bounds_minus, exact_minus}
use Rattle.differences.specs.Vocabulary.{Subtraction}
use Rattle.prob_expr.specs.Vocabulary.{Weights}
use Rattle.count_rows.specs.Vocabulary.{Table}
use Rattle.count_eval.specs.declared.failure.EvalFault.{EvalFault}
use Rattle.count_eval.specs.Vocabulary.{IsEvaluationFault, after, cell_of, is_used, weights_in}
use Rattle.count_eval.specs.Programs.{seen_so_far}
use Rattle.count_eval.specs.Stops.{Stop}
use Rattle.factor_values.specs.Vocabulary.{factors_outcome}
use Rattle.split_values.specs.Vocabulary.{split_outcome}
use Rattle.evaluate_command.specs.Stopped.{is_stop_memory}
use Rattle.evaluate_command.specs.Vocabulary.{CellValue, bounds_numbers, exact_numbers, plain_in}
use Rattle.evaluate_command.specs.declared.answer.Values.{Values}
use Rattle.evaluate_command.specs.declared.answer.Values.TheVariants.{Exact, Bounds}
use Rattle.paired_values.specs.Cells.{printed_cells, second_levels}
use Rattle.paired_values.specs.Readings.{PlainPaired, PlainReading, by_factors, by_split}
use Rattle.paired_values.specs.declared.fault.PairFault.{PairFault}
use Rattle.paired_values.specs.declared.fault.PairFault.TheVariants.{Stopped, Below}

-- exact fractions, or else bounds
abbrev pub kind_in : (is_exact : Bool) → Kind
kind_in true = exact
kind_in false = bounds

-- the fractions that they stand for
abbrev pub covers_in : (is_exact : Bool) → Pair → Fraction → Type 0
covers_in true = Equals
covers_in false = Covers

-- those that differences stand for: of bounds it isn't known whether they are of 0
abbrev pub encloses_in : (is_exact : Bool) → Pair → Fraction → Type 0
encloses_in true = Equals
encloses_in false = Encloses

-- and their differences
abbrev pub minus_in : (is_exact : Bool) → Subtraction
minus_in true = exact_minus
minus_in false = bounds_minus

-- the value at first levels s and second levels t: none where it would be below 0
abbrev pub outcome_at : Kind → Subtraction → Weights → PlainPaired → PlainReading → (s t : ℕ → ℕ) → Result (Option Pair) Stop
outcome_at kind minus w e (by_factors f) s t = after (factors_outcome kind w f s t) (λ q. Ok (Some q))
outcome_at kind minus w e (by_split joint) s t = split_outcome kind minus w e.x e.y e.given joint s t

-- the value at a cell of names
abbrev pub value_by : Kind → Subtraction → PlainPaired → Table → List ℕ → Result (Option Pair) Stop
value_by kind minus e t cell = outcome_at kind minus (weights_in e.vertices t) e e.reading (cell_of cell) (second_levels e cell)

-- in exact fractions, or else in bounds
abbrev pub value_in : (is_exact : Bool) → PlainPaired → Table → List ℕ → Result (Option Pair) Stop
value_in is_exact = value_by (kind_in is_exact) (minus_in is_exact)

-- why there are no values: the stop of an evaluation, or a cell at which the value would be below 0
pub data PlainFault : Type 0 where
  stopped : Stop → PlainFault
  below : (cell : List ℕ) → PlainFault

-- the value at a cell, or why there is none
abbrev pub found_at : (cell : List ℕ) → Result (Option Pair) Stop → Result Pair PlainFault
found_at cell (Ok (Some q)) = Ok q
found_at cell (Ok None) = Err (below cell)
found_at cell (Err s) = Err (stopped s)

-- the cells in order, each with its quantity; or why the first that has none has none
abbrev pub values_at : (List ℕ → Result (Option Pair) Stop) → List (List ℕ) → Result (List CellValue) PlainFault
values_at value [] = Ok []
values_at value (cell ∷ cells) =
    after (found_at cell (value cell)) (λ q. after (values_at value cells) (λ values. Ok (record { cell = cell; quantity = q } ∷ values)))

-- cells with their quantities, as plain data
abbrev pub plain_values : Values → List CellValue
plain_values (Exact values) = plain_in exact_numbers values.items
plain_values (Bounds values) = plain_in bounds_numbers values.items

-- they are exact fractions
abbrev pub are_exact : Values → Bool
are_exact (Exact values) = true
are_exact (Bounds values) = false

-- these are the values at the printed cells, in exact fractions, or else in bounds
pub record AreValuesOver (is_exact : Bool) (e : PlainPaired) (t : Table) (values : Values) : Type 0 where
  pub kind : are_exact values ≡ is_exact
  pub evaluated : values_at (value_in is_exact e t) (printed_cells e t) ≡ Ok (plain_values values)

-- want of memory is one of the faults
abbrev pub is_wanting : PairFault → Bool
is_wanting (Stopped fault) = is_stop_memory fault
is_wanting (Below cell) = false

-- the fault says this
abbrev pub Says : (ℕ → Bool) → PairFault → PlainFault → Type 0
Says used (Stopped fault) (stopped s) = IsEvaluationFault used fault s
Says used (Below cell) (below c) = cell.items ≡ c
Says used fault f = ⊥

-- the fault names this cell
abbrev pub IsBelow : (cell : List ℕ) → PairFault → Type 0
IsBelow cell (Below c) = c.items ≡ cell
IsBelow cell (Stopped fault) = ⊥

-- the fault says why the first printed cell that has no value has none
abbrev pub IsWhyNone : (is_exact : Bool) → PlainPaired → Table → PairFault → Type 0
IsWhyNone is_exact e t fault = (f : PlainFault) × (values_at (value_in is_exact e t) (printed_cells e t) ≡ Err f) × Says (is_used t) fault f

-- the answer is the value, or that there is none, or the fault of the stop
abbrev pub MayAnswer : {Q : Type 0} → (Q → Pair) → Table → Result (Option Pair) Stop → Result (Option Q) EvalFault → Type 0
MayAnswer numbers t o (Ok q) = o ≡ Ok (seen_so_far numbers q)
MayAnswer numbers t o (Err e) = (s : Stop) × (o ≡ Err s) × IsEvaluationFault (is_used t) e s
