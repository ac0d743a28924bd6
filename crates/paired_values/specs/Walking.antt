-- What the functions promise that walk through the cells.
use Rattle.std.specs.Prelude.{ℕ, ◌≡◌, List, ◌++◌, Ok, Err}
use Rattle.quantity.specs.Vocabulary.{Kind}
use Rattle.differences.specs.Vocabulary.{Subtraction}
use Rattle.count_rows.specs.Vocabulary.{Table}
use Rattle.count_eval.specs.Vocabulary.{is_used}
use Rattle.evaluate_command.specs.Vocabulary.{CellValue}
use Rattle.paired_values.specs.Readings.{PlainPaired}
use Rattle.paired_values.specs.Values.{PlainFault, Says, value_by, values_at}
use Rattle.paired_values.specs.declared.fault.PairFault.{PairFault}

-- the cells are appended, with the values there
pub record Appends (kind : Kind) (minus : Subtraction) (e : PlainPaired) (t : Table) (cells : List (List ℕ)) (old new : List CellValue) : Type 0 where
  pub values : List CellValue
  pub evaluated : values_at (value_by kind minus e t) cells ≡ Ok values
  pub list : new ≡ old ++ values

-- the fault is that of the first cell without a value
abbrev pub IsFaultAt : Kind → Subtraction → PlainPaired → Table → List (List ℕ) → PairFault → Type 0
IsFaultAt kind minus e t cells fault = (f : PlainFault) × (values_at (value_by kind minus e t) cells ≡ Err f) × Says (is_used t) fault f
