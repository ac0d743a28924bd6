-- Which answers of `evaluate --treated` are right over the bytes of counts, for an effect whose values are had from factors or by two levels.
use Rattle.std.specs.Prelude.{ℕ, ◌≡◌, ◌<◌, ◌≤◌, ◌||◌, Bool, true, List, All, Option, Result, Err}
use Rattle.fractions.specs.Vocabulary.{Fraction}
use Rattle.mixed_graph.specs.Vocabulary.{has, MixedGraph}
use Rattle.finite_models.specs.Vocabulary.{FiniteModel, Fits, IsPositiveModel}
use Rattle.prob_expr.specs.Vocabulary.{PlainFormula}
use Rattle.quantity.specs.Kinds.{Pair}
use Rattle.count_rows.specs.Vocabulary.{Field, Table}
use Rattle.count_table.specs.Vocabulary.{total}
use Rattle.count_eval.specs.declared.failure.EvalFault.{EvalFault}
use Rattle.count_eval.specs.Vocabulary.{IsMatched, weights_in, is_used, cell_of}
use Rattle.table_cells.specs.Vocabulary.{level_count}
use Rattle.treated_models.specs.Vocabulary.{as_observed, effect_among}
use Rattle.factor_values.specs.Vocabulary.{PlainFactors, factors_supported, factors_value}
use Rattle.split_values.specs.Vocabulary.{IsNotBelow, split_supported, split_value}
use Rattle.evaluate_command.specs.Vocabulary.{CellValue}
use Rattle.evaluate_command.specs.declared.faults.ValuesFault.{ValuesFault}
use Rattle.paired_values.specs.declared.fault.PairFault.TheVariants.{Stopped}
use Rattle.paired_values.specs.Vocabulary.{AreValuesOver, IsForBytes, IsWhyNone, PlainReading, below, by_factors, by_split, covers_in, encloses_in, observed_axes, pinned_in, plain_values, printed_cells, read_in, second_levels, value_in, values_at}
use Rattle.evaluate_treated.specs.Effects.{IsByPath, PlainAmong, paired_in}
use Rattle.evaluate_treated.specs.declared.answer.Answer.{Answer}
use Rattle.evaluate_treated.specs.declared.answer.Answer.TheVariants as answers
use Rattle.evaluate_treated.specs.declared.answer.AmongValues.{AmongValues}
use Rattle.evaluate_treated.specs.declared.answer.NoModel.{NoModel}

-- ---- values

-- no divisor is 0 over the counts, and the quantity covers what the factors give
pub record CoversFactors (covers : Pair → Fraction → Type 0) (e : PlainAmong) (f : PlainFactors) (t : Table) (v : CellValue) : Type 0 where
  pub supported : factors_supported (weights_in e.graph.vertices t) f (cell_of v.cell) (second_levels (paired_in e) v.cell) ≡ true
  pub covered : covers v.quantity (factors_value (weights_in e.graph.vertices t) f (cell_of v.cell) (second_levels (paired_in e) v.cell))

-- no divisor is 0 over the counts, and the quantity encloses what is left of the joint effect, where that isn't below 0
pub record EnclosesSplit (encloses : Pair → Fraction → Type 0) (e : PlainAmong) (joint : PlainFormula) (t : Table) (v : CellValue) : Type 0 where
  pub supported : split_supported (weights_in e.graph.vertices t) e.asked.sets.x.bits e.asked.sets.y.bits e.asked.sets.given.bits joint (cell_of v.cell)
      (second_levels (paired_in e) v.cell) ≡ true
  pub enclosed : IsNotBelow (weights_in e.graph.vertices t) e.asked.sets.x.bits e.asked.sets.y.bits e.asked.sets.given.bits joint (cell_of v.cell)
      (second_levels (paired_in e) v.cell)
      → encloses v.quantity (split_value (weights_in e.graph.vertices t) e.asked.sets.x.bits e.asked.sets.y.bits e.asked.sets.given.bits joint (cell_of v.cell)
      (second_levels (paired_in e) v.cell))

-- what a quantity says of the counts
abbrev pub ShowsCounts : (is_exact : Bool) → PlainAmong → PlainReading → Table → CellValue → Type 0
ShowsCounts is_exact e (by_factors f) = CoversFactors (covers_in is_exact) e f
ShowsCounts is_exact e (by_split joint) = EnclosesSplit (encloses_in is_exact) e joint

-- the fractions that a quantity stands for: what is left where something is taken off is enclosed alone
abbrev pub shown_in : (is_exact : Bool) → PlainReading → Pair → Fraction → Type 0
shown_in is_exact (by_factors f) = covers_in is_exact
shown_in is_exact (by_split joint) = encloses_in is_exact

-- The quantity covers P(y under do(x) | x and z as observed) at the cell in each positive model that fits the graph and whose observed weights are those of
-- the counts, up to one factor.
abbrev pub CoversAmong : (Pair → Fraction → Type 0) → PlainAmong → Table → CellValue → Type 0
CoversAmong covers e t v = (m : FiniteModel) → Fits e.graph m → IsPositiveModel m → IsMatched (is_used t) (weights_in e.graph.vertices t) (total t.rows) m
    → covers v.quantity (effect_among m (has e.asked.sets.x.bits) (has e.asked.sets.y.bits) (λ u. has e.asked.sets.x.bits u || has e.asked.sets.given.bits u)
    (cell_of v.cell) (as_observed m.vertices e.asked.sets.x.bits (cell_of v.cell)))

-- each vertex of x has at most two levels in the table
abbrev pub AreTwoLevels : (x : ℕ) → Table → Type 0
AreTwoLevels x t = (v : ℕ) → has x v ≡ true → level_count t v ≤ 2

-- some vertex of x has more
abbrev pub AreMoreLevels : (x : ℕ) → Table → Type 0
AreMoreLevels x t = (v : ℕ) × (has x v ≡ true) × (2 < level_count t v)

-- the table has levels of which values are had
abbrev pub HasItsLevels : (x : ℕ) → Table → PlainReading → Type 0
HasItsLevels x t (by_factors f) = Unit {0}
HasItsLevels x t (by_split joint) = AreTwoLevels x t

-- it has more than two levels of x, where no more may be
abbrev pub HasMoreLevels : (x : ℕ) → Table → PlainReading → Type 0
HasMoreLevels x t (by_factors f) = ⊥
HasMoreLevels x t (by_split joint) = AreMoreLevels x t

-- The values are those of the effect over the table, with the primed names of x and what is pinned. Each says what it stands for over the counts, and covers
-- or encloses the effect in each model of the graph that has them.
pub record AreValuesOf (is_exact : Bool) (e : PlainAmong) (t : Table) (a : AmongValues) : Type 0 where
  pub asked : a.asked ≡ e.asked
  pub observed : a.observed.items ≡ observed_axes e.graph.vertices e.asked.sets.x.bits
  pub pinned : a.pinned.bits ≡ pinned_in (paired_in e)
  pub table : a.counts ≡ t
  pub levels : HasItsLevels e.asked.sets.x.bits t e.reading
  pub values : AreValuesOver is_exact (paired_in e) t a.values
  pub counts : All (ShowsCounts is_exact e e.reading t) (plain_values a.values)
  pub effects : All (CoversAmong (shown_in is_exact e.reading) e t) (plain_values a.values)

-- ---- no values

-- no positive model that fits the graph has the counts' observed weights, up to one factor
abbrev pub NoModelHas : MixedGraph → Table → Type 0
NoModelHas g t = (m : FiniteModel) → Fits g m → IsPositiveModel m → IsMatched (is_used t) (weights_in g.vertices t) (total t.rows) m → ⊥

-- at this printed cell, the first without a value, it would be below 0; so no model has the counts
pub record IsOfNoModel (is_exact : Bool) (e : PlainAmong) (t : Table) (a : NoModel) : Type 0 where
  pub asked : a.asked ≡ e.asked
  pub observed : a.observed.items ≡ observed_axes e.graph.vertices e.asked.sets.x.bits
  pub pinned : a.pinned.bits ≡ pinned_in (paired_in e)
  pub table : a.counts ≡ t
  pub levels : HasItsLevels e.asked.sets.x.bits t e.reading
  pub cell : values_at (value_in is_exact (paired_in e) t) (printed_cells (paired_in e) t) ≡ Err (below a.cell.items)
  pub none : NoModelHas e.graph t

-- the answer over a table: values; or that no model has the counts; or that x has more than two levels, so that the answer by the path is left
abbrev pub IsOverTable : (is_exact : Bool) → PlainAmong → Table → Answer → Type 0
IsOverTable is_exact e t (answers.Values a) = AreValuesOf is_exact e t a
IsOverTable is_exact e t (answers.NoModel a) = IsOfNoModel is_exact e t a
IsOverTable is_exact e t (answers.Path a) = IsByPath e.graph e.asked a.now × HasMoreLevels e.asked.sets.x.bits t e.reading

-- there is none: the fault says the stop at the first printed cell that has none
pub record HasNoValue (is_exact : Bool) (e : PlainAmong) (t : Table) (fault : EvalFault) : Type 0 where
  pub levels : HasItsLevels e.asked.sets.x.bits t e.reading
  pub stopped : IsWhyNone is_exact (paired_in e) t (Stopped fault)

-- the answer over the bytes of counts, or why there is none
abbrev pub IsForCounts : (is_exact : Bool) → PlainAmong → Option Field → List ℕ → Result Answer ValuesFault → Type 0
IsForCounts is_exact e = IsForBytes e.names (read_in (paired_in e)) (IsOverTable is_exact e) (HasNoValue is_exact e)
