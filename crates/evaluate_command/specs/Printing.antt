-- What the functions promise that evaluate a prepared formula at cells.
use Rattle.std.specs.Prelude.{ℕ, ◌≡◌, false, List, All, ◌++◌, Result, Ok, Err}
use Rattle.fractions.specs.Vocabulary.{Fraction}
use Rattle.quantity.specs.Kinds.{Pair}
use Rattle.count_eval.specs.Rules.{Rule}
use Rattle.count_eval.specs.declared.failure.EvalFault.{EvalFault}
use Rattle.count_eval.specs.Vocabulary.{IsEvaluationFault, CoversCounts, CoversWithZeros, CoversMatches, formula_value, weights_in, is_used, cell_of, Preparation}
use Rattle.count_eval.specs.Stops.{Stop}
use Rattle.table_cells.specs.Vocabulary.{IsCell}
use Rattle.evaluate_command.specs.Cells.{CellValue, values_at}

-- the value of a prepared formula at a cell
abbrev pub value_by : Rule → Preparation → List ℕ → Result Pair Stop
value_by rule p cell = formula_value rule (weights_in p.vertices p.counts) p.formula (cell_of cell)

-- the cells are appended, with the values there
pub record Appends (rule : Rule) (covers : Pair → Fraction → Type 0) (p : Preparation) (cells : List (List ℕ)) (old new : List CellValue) : Type 0 where
  pub values : List CellValue
  pub evaluated : values_at (value_by rule p) cells ≡ Ok values
  pub counts : rule.zero ≡ false → All (λ v. CoversCounts covers p.vertices p.counts p.formula (cell_of v.cell) v.quantity) values
  pub zeros : All (λ v. CoversWithZeros covers p.vertices p.counts p.formula (cell_of v.cell) v.quantity) values
  pub each : All (λ v. IsCell p.vertices p.counts v.cell) values
  pub matches : All (λ v. CoversMatches covers p.vertices p.counts p.formula (cell_of v.cell) v.quantity) values
  pub list : new ≡ old ++ values

-- the fault is that of the first cell without a value
abbrev pub IsFaultAt : Rule → Preparation → List (List ℕ) → EvalFault → Type 0
IsFaultAt rule p cells fault = (s : Stop) × (values_at (value_by rule p) cells ≡ Err s) × IsEvaluationFault (is_used p.counts) fault s
