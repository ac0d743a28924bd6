-- What is found of an effect over counts.
use Rattle.std.specs.Prelude.{ℕ, ◌≡◌, ◌*◌, nat_lt, Bool, false, List, All, Option, Some, None, Ok}
use Rattle.std.specs.Global.{Vec}
use Rattle.std.specs.List.{find}
use Rattle.prob_expr.specs.Vocabulary.{Weights}
use Rattle.count_rows.specs.Vocabulary.{Table}
use Rattle.count_eval.specs.Vocabulary.{weights_in, is_used, cell_of}
use Rattle.natural_bounds.specs.declared.ends.End.TheVariants.{AtLeast, AtMost}
use Rattle.natural_bounds.specs.Vocabulary.{Asked}
use Rattle.bound_values.specs.declared.questions.Question.{Question}
use Rattle.bound_values.specs.declared.questions.Method.{Method}
use Rattle.bound_values.specs.declared.questions.Method.TheVariants.{Instruments, LevelPairs, Adjustment}
use Rattle.bound_values.specs.declared.values.CellBounds.{CellBounds}
use Rattle.bound_values.specs.declared.values.CellFault.{CellFault}
use Rattle.bound_values.specs.declared.values.CellFault.TheVariants.{NoMemory}
use Rattle.bound_values.specs.declared.found.CellCrossing.{CellCrossing}
use Rattle.bound_values.specs.declared.found.Found.{Found}
use Rattle.bound_values.specs.declared.found.Found.TheVariants.{Crossed, Bounded}
use Rattle.bound_values.specs.Questions.{asked_of}
use Rattle.bound_values.specs.Cells.{printed_cells, crossing_cells}
use Rattle.bound_values.specs.Values.{fraction_of, bound_by, DeniesModels}
use Rattle.bound_values.specs.Told.{cell_bounds, bounds_at, AreEnds, IsFaultAt}

-- whether the bounds of the stratum of s cross
abbrev pub are_crossed : Method → Weights → Asked → (ℕ → ℕ) → Bool
are_crossed method n q s = nat_lt ((bound_by method AtMost n q s).top * (bound_by method AtLeast n q s).bottom)
    ((bound_by method AtLeast n q s).top * (bound_by method AtMost n q s).bottom)

-- the first of these cells in whose stratum bounds cross
abbrev pub first_crossed : Method → ℕ → Table → Asked → List (List ℕ) → Option (List ℕ)
first_crossed method n t q cells = find (λ cell. are_crossed method (weights_in n t) q (cell_of cell)) cells

-- the crossing at a cell: its bounds, for which no model of a graph has the counts
pub record IsCrossing (method : Method) (n : ℕ) (t : Table) (q : Asked) (c : CellCrossing) : Type 0 where
  pub lower : fraction_of c.crossing.lower ≡ bound_by method AtLeast (weights_in n t) q (cell_of c.cell)
  pub upper : fraction_of c.crossing.upper ≡ bound_by method AtMost (weights_in n t) q (cell_of c.cell)
  pub model : DeniesModels method n t q (cell_of c.cell)
  pub others : (v : ℕ) → is_used t v ≡ false → cell_of c.cell v ≡ 0

-- that of the first cell that has one, or none
abbrev pub IsFirstCrossing : Method → ℕ → Table → Asked → List (List ℕ) → Option CellCrossing → Type 0
IsFirstCrossing method n t q cells None = first_crossed method n t q cells ≡ None
IsFirstCrossing method n t q cells (Some c) = (first_crossed method n t q cells ≡ Some c.cell) × IsCrossing method n t q c

-- the first crossing of a question; bounds by adjustment don't cross
abbrev pub crossing_in : Method → ℕ → Table → Question → Option (List ℕ)
crossing_in Instruments n t q = first_crossed Instruments n t (asked_of q) (crossing_cells t q)
crossing_in LevelPairs n t q = first_crossed LevelPairs n t (asked_of q) (crossing_cells t q)
crossing_in Adjustment n t q = None

-- what a question's first crossing is: there is none, or it is this one
abbrev pub IsCrossingOf : ℕ → Table → Question → Option CellCrossing → Type 0
IsCrossingOf n t q None = crossing_in q.method n t q ≡ None
IsCrossingOf n t q (Some c) = (crossing_in q.method n t q ≡ Some c.cell) × IsCrossing q.method n t (asked_of q) c

-- the bounds at the printed cells: each bounds the effect in every model that has the counts
pub record AreBounds (is_exact : Bool) (n : ℕ) (t : Table) (q : Question) (bounds : Vec CellBounds) : Type 0 where
  pub are : bounds_at (cell_bounds is_exact q.method n t (asked_of q)) (printed_cells t q) ≡ Ok bounds.items
  pub ends : All (AreEnds q.method n t (asked_of q)) bounds.items

-- the fault of the first printed cell that has no bounds
abbrev pub IsFaultOf : (is_exact : Bool) → ℕ → Table → Question → CellFault → Type 0
IsFaultOf is_exact n t q fault = IsFaultAt is_exact q.method n t (asked_of q) (printed_cells t q) fault

-- what is found: a crossing; or there is none, and these are the bounds
abbrev pub IsFound : (is_exact : Bool) → ℕ → Table → Question → Found → Type 0
IsFound is_exact n t q (Crossed c) = IsCrossingOf n t q (Some c)
IsFound is_exact n t q (Bounded bounds) = (crossing_in q.method n t q ≡ None) × AreBounds is_exact n t q bounds

-- nothing is found: there is no crossing, and the first printed cell that has no bounds has this fault; want of memory may come instead
abbrev pub IsUnfound : (is_exact : Bool) → ℕ → Table → Question → CellFault → Type 0
IsUnfound is_exact n t q NoMemory = Unit {0}
IsUnfound is_exact n t q fault = (crossing_in q.method n t q ≡ None) × IsFaultOf is_exact n t q fault
