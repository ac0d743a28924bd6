-- Which answers of `evaluate --natural` are right over the bytes of counts, for an effect that has a formula.
use Rattle.std.specs.Prelude.{ℕ, ◌≡◌, true, Bool, List, All, Option, Result}
use Rattle.fractions.specs.Vocabulary.{Fraction}
use Rattle.mixed_graph.specs.Vocabulary.{has}
use Rattle.finite_models.specs.Vocabulary.{FiniteModel, Fits, IsPositiveModel}
use Rattle.quantity.specs.Kinds.{Pair}
use Rattle.count_rows.specs.Vocabulary.{Field, Table}
use Rattle.count_table.specs.Vocabulary.{total}
use Rattle.count_eval.specs.declared.failure.EvalFault.{EvalFault}
use Rattle.count_eval.specs.Vocabulary.{IsMatched, weights_in, is_used, cell_of}
use Rattle.nested_models.specs.Vocabulary.{nested_effect}
use Rattle.factor_values.specs.Vocabulary.{factors_supported, factors_value}
use Rattle.evaluate_command.specs.Vocabulary.{CellValue}
use Rattle.evaluate_command.specs.declared.answer.Values.{Values}
use Rattle.evaluate_command.specs.declared.faults.ValuesFault.{ValuesFault}
use Rattle.paired_values.specs.declared.fault.PairFault.TheVariants.{Stopped}
use Rattle.paired_values.specs.Vocabulary.{AreValuesOver, IsForBytes, IsWhyNone, covers_in, observed_axes, pinned_in, plain_values, read_in, second_levels}
use Rattle.evaluate_natural.specs.Effects.{PlainNested, paired_in}
use Rattle.evaluate_natural.specs.declared.answer.Answer.{Answer}

-- no divisor is 0 over the counts, and the quantity covers what the factors give
pub record CoversFactors (covers : Pair → Fraction → Type 0) (e : PlainNested) (t : Table) (v : CellValue) : Type 0 where
  pub supported : factors_supported (weights_in e.graph.vertices t) e.factors (cell_of v.cell) (second_levels (paired_in e) v.cell) ≡ true
  pub covered : covers v.quantity (factors_value (weights_in e.graph.vertices t) e.factors (cell_of v.cell) (second_levels (paired_in e) v.cell))

-- The quantity covers P(y[x, m[x']] | z) at the cell, x at its first levels and x' at its second ones, in each positive model that fits the graph and whose
-- observed weights are those of the counts, up to one factor.
abbrev pub CoversNested : (Pair → Fraction → Type 0) → PlainNested → Table → CellValue → Type 0
CoversNested covers e t v = (m : FiniteModel) → Fits e.graph m → IsPositiveModel m → IsMatched (is_used t) (weights_in e.graph.vertices t) (total t.rows) m
    → covers v.quantity (nested_effect m (has e.asked.question.x.bits) (has e.asked.question.through.bits) (has e.asked.question.y.bits)
    (has e.asked.question.given.bits) (cell_of v.cell) (second_levels (paired_in e) v.cell))

-- these are the values at the printed cells, in exact fractions, or else in bounds: each covers what the factors give over the counts, and where a model of
-- the graph has these counts, the nested effect
pub record IsOverTable (is_exact : Bool) (e : PlainNested) (t : Table) (values : Values) : Type 0 where
  pub evaluated : AreValuesOver is_exact (paired_in e) t values
  pub counts : All (CoversFactors (covers_in is_exact) e t) (plain_values values)
  pub effects : All (CoversNested (covers_in is_exact) e t) (plain_values values)

-- the values are those of the effect over the table, with the primed names of x, and what is pinned is what is free beside its sets
pub record AreValuesOf (is_exact : Bool) (e : PlainNested) (t : Table) (a : Answer) : Type 0 where
  pub asked : a.asked ≡ e.asked
  pub second : a.second.items ≡ observed_axes e.graph.vertices e.asked.question.x.bits
  pub pinned : a.pinned.bits ≡ pinned_in (paired_in e)
  pub table : a.counts ≡ t
  pub values : IsOverTable is_exact e t a.values

-- there are none: the fault says the stop at the first printed cell that has none
abbrev pub HasNoValue : (is_exact : Bool) → PlainNested → Table → EvalFault → Type 0
HasNoValue is_exact e t fault = IsWhyNone is_exact (paired_in e) t (Stopped fault)

-- the answer over the bytes of counts, or why there is none
abbrev pub IsForCounts : (is_exact : Bool) → PlainNested → Option Field → List ℕ → Result Answer ValuesFault → Type 0
IsForCounts is_exact e = IsForBytes e.names (read_in (paired_in e)) (AreValuesOf is_exact e) (HasNoValue is_exact e)
