-- Which answers of `evaluate` are right over the bytes of counts, for an effect that has a formula.
use Rattle.std.specs.Prelude.{ℕ, ◌≡◌, ◌≢◌, ◌<◌, ◌≤◌, Bool, true, false, List, All, length, Option, Some, Result, Ok, Err}
use Rattle.fractions.specs.Vocabulary.{Fraction}
use Rattle.mixed_graph.specs.Vocabulary.{has}
use Rattle.finite_models.specs.Vocabulary.{FiniteModel, Fits, IsPositiveModel}
use Rattle.do_rules.specs.Vocabulary.{AreThreeSets}
use Rattle.adjustment.specs.Vocabulary.{IsAdmissible, adjustment_formula}
use Rattle.weak_adjustment.specs.Vocabulary.{IsWeaklyPositive}
use Rattle.prob_expr.specs.Vocabulary.{effect, target_view}
use Rattle.identify_text.specs.Vocabulary.{free_beside}
use Rattle.quantity.specs.Exacts.{exact}
use Rattle.quantity.specs.Vocabulary.{Equals, Covers}
use Rattle.quantity.specs.Intervals.{bounds}
use Rattle.quantity.specs.Kinds.{Pair}
use Rattle.count_rows.specs.declared.fault.CountFault.{CountFault}
use Rattle.count_rows.specs.Vocabulary.{Field, Table}
use Rattle.count_rows.specs.declared.fault.CountFault.TheVariants as counts
use Rattle.count_table.specs.Vocabulary.{text_fault, AreCounts, total}
use Rattle.count_eval.specs.declared.failure.EvalFault.{EvalFault}
use Rattle.count_eval.specs.Vocabulary.{CoversCounts, CoversWithZeros, IsEvaluationFault, IsMatched, weights_in, is_used, cell_of}
use Rattle.count_eval.specs.Rules.{Rule, rule as rule_of}
use Rattle.count_eval.specs.Stops.{Stop}
use Rattle.count_answers.specs.Vocabulary.{HoldsCounts}
use Rattle.evaluate_command.specs.Breaks.{IsBreak}
use Rattle.evaluate_command.specs.Cells.{CellValue, value_in, values_at, printed_cells}
use Rattle.evaluate_command.specs.Effects.{PlainEffect, target_of, used_in}
use Rattle.evaluate_command.specs.Listed.{exact_numbers, bounds_numbers, plain_in}
use Rattle.evaluate_command.specs.declared.answer.Answer.{Answer}
use Rattle.evaluate_command.specs.declared.answer.Answer.TheVariants as answers
use Rattle.evaluate_command.specs.declared.answer.EffectValues.{EffectValues}
use Rattle.evaluate_command.specs.declared.answer.Values.{Values}
use Rattle.evaluate_command.specs.declared.answer.Values.TheVariants.{Exact, Bounds}
use Rattle.evaluate_command.specs.declared.faults.ValuesFault.{ValuesFault}
use Rattle.evaluate_command.specs.declared.faults.ValuesFault.TheVariants.{TooLong, Counts, NoValue, NoMemory}

-- ---- over a table of counts

-- The quantity covers P(y | do(x), given) at the cell in each positive model that fits the graph and whose observed weights are those of the counts,
-- up to one factor.
abbrev pub CoversEffect : (Pair → Fraction → Type 0) → PlainEffect → Table → CellValue → Type 0
CoversEffect covers e t v = (m : FiniteModel) → Fits e.graph m → IsPositiveModel m → IsMatched (is_used t) (weights_in e.graph.vertices t) (total t.rows) m
    → covers v.quantity (effect m (target_of e) (cell_of v.cell))

-- Where the formula is the adjustment formula of an admissible set, the quantity covers the effect at the cell in each model that fits the graph and whose
-- observed weights are those of the counts, up to one factor, positive or not, if only P(x given the set) is above 0 wherever the set's values are.
abbrev pub CoversAdjusted : (Pair → Fraction → Type 0) → PlainEffect → Table → CellValue → Type 0
CoversAdjusted covers e t v = (z : ℕ) → e.given ≡ 0 → e.formula ≡ adjustment_formula e.x e.y z → AreThreeSets e.graph.vertices (has e.x) (has e.y) (has z)
    → IsAdmissible e.graph (has e.x) (has e.y) (has z) → (m : FiniteModel) → Fits e.graph m → IsWeaklyPositive m (has e.x) (has z)
    → IsMatched (is_used t) (weights_in e.graph.vertices t) (total t.rows) m → covers v.quantity (effect m (target_of e) (cell_of v.cell))

-- The cells have these values by the rule. By the first rule each quantity covers the formula's value over the counts, and by either rule its value by the
-- rule that a product with a factor 0 is 0; and where a model of the graph has these counts, the effect in it: in a positive model, and for the formula of
-- an admissible set in one that is positive where that formula needs it.
pub record AreValues (rule : Rule) (covers : Pair → Fraction → Type 0) (e : PlainEffect) (t : Table) (cells : List (List ℕ)) : Type 0 where
  pub values : List CellValue
  pub evaluated : values_at (value_in rule e t) cells ≡ Ok values
  pub counts : rule.zero ≡ false → All (λ v. CoversCounts covers e.graph.vertices t e.formula (cell_of v.cell) v.quantity) values
  pub zeros : All (λ v. CoversWithZeros covers e.graph.vertices t e.formula (cell_of v.cell) v.quantity) values
  pub effects : All (CoversEffect covers e t) values
  pub adjusted : All (CoversAdjusted covers e t) values

-- these are the values at the printed cells
pub record AreEvaluated (rule : Rule) (covers : Pair → Fraction → Type 0) (e : PlainEffect) (t : Table) (list : List CellValue) : Type 0 where
  pub values : AreValues rule covers e t (printed_cells e t)
  pub listed : list ≡ values.values

-- in exact fractions, or else in bounds, by one of the two rules for products
abbrev pub IsOverTable : (is_exact zero : Bool) → PlainEffect → Table → Values → Type 0
IsOverTable true zero e t (Exact values) = AreEvaluated (rule_of exact zero) Equals e t (plain_in exact_numbers values.items)
IsOverTable false zero e t (Bounds values) = AreEvaluated (rule_of bounds zero) Covers e t (plain_in bounds_numbers values.items)
IsOverTable is_exact zero e t values = ⊥

-- no value: the fault says the stop at the first printed cell that has none
abbrev pub IsUnvalued : Rule → PlainEffect → Table → EvalFault → Type 0
IsUnvalued rule e t fault = (s : Stop) × (values_at (value_in rule e t) (printed_cells e t) ≡ Err s) × IsEvaluationFault (is_used t) fault s

-- the same in exact fractions, or else in bounds
abbrev pub HasNoValue : (is_exact zero : Bool) → PlainEffect → Table → EvalFault → Type 0
HasNoValue true zero = IsUnvalued (rule_of exact zero)
HasNoValue false zero = IsUnvalued (rule_of bounds zero)

-- the values are those of the effect over the table, and what is pinned is what is free in its formula beside its sets; where it is asked for, the first
-- pair that the graph implies and the counts break is told, by which no model has the counts
pub record AreEffectValues (is_exact zero matched : Bool) (e : PlainEffect) (t : Table) (a : EffectValues) : Type 0 where
  pub target : target_view a.target ≡ target_of e
  pub pinned : a.pinned.bits ≡ free_beside (target_of e) e.formula
  pub table : a.counts ≡ t
  pub values : IsOverTable is_exact zero e t a.values
  pub broken : IsBreak matched e.graph t a.broken

-- the answer over a table
abbrev pub IsForTable : (is_exact zero matched : Bool) → PlainEffect → Table → Answer → Type 0
IsForTable is_exact zero matched e t (answers.Values a) = AreEffectValues is_exact zero matched e t a
IsForTable is_exact zero matched e t a = ⊥

-- there is none over a table of counts: the fault says so, with this table and the names of its vertices
pub record IsStopped (is_exact zero : Bool) (e : PlainEffect) (t : Table) (names : List (List ℕ)) (counted : Table) (fault : EvalFault) : Type 0 where
  pub named : names ≡ e.names
  pub table : counted ≡ t
  pub counts : AreCounts t
  pub value : HasNoValue is_exact zero e t fault

-- why there is no answer over a table
abbrev pub IsFaultOver : (is_exact zero : Bool) → PlainEffect → Table → ValuesFault → Type 0
IsFaultOver is_exact zero e t (NoValue names counted fault) = IsStopped is_exact zero e t names.now counted fault
IsFaultOver is_exact zero e t fault = ⊥

-- ---- over the bytes of counts

-- the answer over the table of the bytes
pub record HasValues (is_exact zero matched : Bool) (e : PlainEffect) (count : Option Field) (bytes : List ℕ) (a : Answer) : Type 0 where
  pub table : Table
  pub holds : HoldsCounts e.names (used_in e) count bytes table
  pub answer : IsForTable is_exact zero matched e table a

-- there is none over the table of the bytes
pub record LackValues (is_exact zero : Bool) (e : PlainEffect) (count : Option Field) (bytes : List ℕ) (fault : ValuesFault) : Type 0 where
  pub table : Table
  pub holds : HoldsCounts e.names (used_in e) count bytes table
  pub over : IsFaultOver is_exact zero e table fault

-- the bytes are no counts of the vertices that are used: their text has this fault
pub record AreNoCounts (e : PlainEffect) (count : Option Field) (bytes : List ℕ) (fault : CountFault) : Type 0 where
  pub small : length bytes ≤ 67108864
  pub no_memory : fault ≢ counts.NoMemory
  pub found : text_fault bytes e.names (used_in e) count ≡ Some fault

-- why there are no values
abbrev pub IsCountsFault : (is_exact zero : Bool) → PlainEffect → Option Field → List ℕ → ValuesFault → Type 0
IsCountsFault is_exact zero e count bytes TooLong = 67108864 < length bytes
IsCountsFault is_exact zero e count bytes (Counts fault) = AreNoCounts e count bytes fault
IsCountsFault is_exact zero e count bytes (NoValue names t fault) = LackValues is_exact zero e count bytes (NoValue names t fault)
IsCountsFault is_exact zero e count bytes NoMemory = ⊥

-- the answer, or why there is none
abbrev pub IsForCounts : (is_exact zero matched : Bool) → PlainEffect → Option Field → List ℕ → Result Answer ValuesFault → Type 0
IsForCounts is_exact zero matched e count bytes (Ok a) = HasValues is_exact zero matched e count bytes a
IsForCounts is_exact zero matched e count bytes (Err fault) = IsCountsFault is_exact zero e count bytes fault
