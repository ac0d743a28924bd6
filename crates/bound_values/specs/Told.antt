-- The bounds at cells, as they are told.
use Rattle.std.specs.Prelude.{ℕ, ◌≡◌, ◌^◌, ◌==◌, Bool, true, false, if◌then◌else◌, List, [], ◌∷◌, ◌++◌, Result, Ok, Err}
use Rattle.mixed_graph.specs.Vocabulary.{MixedGraph, IsMixedGraph}
use Rattle.fractions.specs.Vocabulary.{Fraction, over}
use Rattle.prob_expr.specs.Vocabulary.{Weights}
use Rattle.quantity.specs.Kinds.{Pair}
use Rattle.quantity.specs.declared.fault.QuantityFault.{QuantityFault}
use Rattle.quantity.specs.Vocabulary.{Kind}
use Rattle.quantity.specs.Exacts.{exact}
use Rattle.quantity.specs.Intervals.{bounds}
use Rattle.count_rows.specs.Vocabulary.{Table}
use Rattle.count_table.specs.Vocabulary.{total}
use Rattle.count_eval.specs.Vocabulary.{weights_in, is_used, cell_of}
use Rattle.natural_bounds.specs.declared.ends.End.{End}
use Rattle.natural_bounds.specs.declared.ends.End.TheVariants.{AtLeast, AtMost}
use Rattle.natural_bounds.specs.Vocabulary.{Asked, condition, BoundsEffect}
use Rattle.bound_values.specs.declared.questions.Method.{Method}
use Rattle.bound_values.specs.declared.values.Value.{Value}
use Rattle.bound_values.specs.declared.values.Value.TheVariants.{Fraction as Ratio, Units}
use Rattle.bound_values.specs.declared.values.CellBounds.{CellBounds}
use Rattle.bound_values.specs.declared.values.CellFault.{CellFault}
use Rattle.bound_values.specs.declared.values.CellFault.TheVariants.{NoRecords, TooWide, NoMemory}
use Rattle.bound_values.specs.Values.{bound_value, MayBeUsed}

-- exact fractions, or else units of 10^-18
abbrev pub kind_of : (is_exact : Bool) → Kind
kind_of true = exact
kind_of false = bounds

-- the number that a value is
abbrev pub number_of : Value → Fraction
number_of (Ratio p q) = over p q
number_of (Units k) = over k (10 ^ 18)

-- an end of a bound with these numbers: a fraction, or of two bounds the outer one
abbrev pub value_in : (is_exact : Bool) → End → Pair → Value
value_in true end p = Ratio p.first p.second
value_in false AtLeast p = Units p.first
value_in false AtMost p = Units p.second

-- the same of a bound, or why there is none
abbrev pub told_value : (is_exact : Bool) → End → Result Pair QuantityFault → Result Value QuantityFault
told_value is_exact end (Ok p) = Ok (value_in is_exact end p)
told_value is_exact end (Err fault) = Err fault

-- an end of the bounds of an effect
abbrev pub end_value : (is_exact : Bool) → Method → End → Weights → Asked → (ℕ → ℕ) → Result Value QuantityFault
end_value is_exact method end n q s = told_value is_exact end (bound_value (kind_of is_exact) method end n q s)

-- both ends at a cell
abbrev pub both_ends : List ℕ → Result Value QuantityFault → Result Value QuantityFault → Result CellBounds CellFault
both_ends cell (Ok low) (Ok high) = Ok (record { cell = cell; at_least = low; at_most = high })
both_ends cell (Ok low) (Err fault) = Err TooWide
both_ends cell (Err fault) high = Err TooWide

-- the bounds at a cell; there are none where what is given has no records
abbrev pub cell_bounds : (is_exact : Bool) → Method → ℕ → Table → Asked → List ℕ → Result CellBounds CellFault
cell_bounds is_exact method n t q cell = if condition (weights_in n t) q (cell_of cell) == 0 then Err (NoRecords cell)
    else both_ends cell (end_value is_exact method AtLeast (weights_in n t) q (cell_of cell)) (end_value is_exact method AtMost (weights_in n t) q (cell_of cell))

-- one more in front, or the first fault
abbrev pub in_front : Result CellBounds CellFault → Result (List CellBounds) CellFault → Result (List CellBounds) CellFault
in_front (Ok b) (Ok bs) = Ok (b ∷ bs)
in_front (Ok b) (Err fault) = Err fault
in_front (Err fault) bs = Err fault

-- the bounds at cells in order, or why the first that has none has none
abbrev pub bounds_at : (List ℕ → Result CellBounds CellFault) → List (List ℕ) → Result (List CellBounds) CellFault
bounds_at at [] = Ok []
bounds_at at (cell ∷ cells) = in_front (at cell) (bounds_at at cells)

-- the bounds at these cells are appended
pub record Appends (is_exact : Bool) (method : Method) (n : ℕ) (t : Table) (q : Asked) (cells : List (List ℕ)) (old new : List CellBounds) : Type 0 where
  pub list : List CellBounds
  pub are : bounds_at (cell_bounds is_exact method n t q) cells ≡ Ok list
  pub items : new ≡ old ++ list

-- the fault is that of the first cell without bounds; want of memory may come instead
abbrev pub IsFaultAt : (is_exact : Bool) → Method → ℕ → Table → Asked → List (List ℕ) → CellFault → Type 0
IsFaultAt is_exact method n t q cells NoMemory = Unit {0}
IsFaultAt is_exact method n t q cells fault = bounds_at (cell_bounds is_exact method n t q) cells ≡ Err fault

-- an end bounds the effect in every model that has the counts, positive or not: of each graph for whose sets the method may be used
abbrev pub IsEnd : Method → End → ℕ → Table → Asked → List ℕ → Value → Type 0
IsEnd method end n t q cell v = (g : MixedGraph) → IsMixedGraph g → MayBeUsed method g (is_used t) q
    → BoundsEffect end g q.x q.y q.c (is_used t) (weights_in n t) (total t.rows) (cell_of cell) (number_of v)

-- both ends do
pub record AreEnds (method : Method) (n : ℕ) (t : Table) (q : Asked) (b : CellBounds) : Type 0 where
  pub at_least : IsEnd method AtLeast n t q b.cell b.at_least
  pub at_most : IsEnd method AtMost n t q b.cell b.at_most
