-- An effect whose values are had at two levels of x at once.
use Rattle.std.specs.Prelude.{ℕ, ◌≡◌, ◌≤◌, ◌<◌, true}
use Rattle.mixed_graph.specs.Vocabulary.{has, minus, union}
use Rattle.do_rules.specs.Vocabulary.{AreThreeSets}
use Rattle.prob_expr.specs.Mentioned.{mentioned}
use Rattle.prob_expr.specs.Vocabulary.{PlainFormula, formula_view, free_of}
use Rattle.count_rows.specs.Vocabulary.{Table}
use Rattle.count_table.specs.Vocabulary.{AreCounts}
use Rattle.count_eval.specs.Vocabulary.{is_used}
use Rattle.treated_models.specs.Vocabulary.{name_count}
use Rattle.factor_values.specs.Vocabulary.{AreEvaluable, PlainFactors, factors_view}
use Rattle.natural_values.specs.Vocabulary.{free_in_factors, mentioned_in_factors}
use Rattle.split_values.specs.Vocabulary.{IsSplitEvaluable}
use Rattle.paired_values.specs.declared.readings.PairedEffect.{PairedEffect}
use Rattle.paired_values.specs.declared.readings.Reading.{Reading}
use Rattle.paired_values.specs.declared.readings.Reading.TheVariants.{Factors, Split}

-- how a value is had: from factors, each of which reads some vertices at their second levels; or, where x has two levels, from the formula of the joint
-- effect of x on y and what is given
pub data PlainReading : Type 0 where
  by_factors : PlainFactors → PlainReading
  by_split : PlainFormula → PlainReading

-- an effect of x on y, and what is given, in a graph on so many vertices, and how its values are had
pub record PlainPaired : Type 0 where
  pub vertices : ℕ
  pub x : ℕ
  pub y : ℕ
  pub given : ℕ
  pub reading : PlainReading

-- the plain reading
abbrev pub reading_view : Reading → PlainReading
reading_view (Factors e) = by_factors (factors_view e.now)
reading_view (Split f) = by_split (formula_view f.now)

-- the plain effect
abbrev pub paired_view : PairedEffect → PlainPaired
paired_view e = record { vertices = e.n; x = e.sets.x.bits; y = e.sets.y.bits; given = e.sets.given.bits; reading = reading_view e.reading }

-- x, y and what is given
abbrev pub sets_of : PlainPaired → ℕ
sets_of e = union e.x (union e.y e.given)

-- the vertices whose levels are read: those that the reading names, with those that factors are summed over, and these sets
abbrev pub read_by : PlainReading → (sets : ℕ) → ℕ
read_by (by_factors f) sets = union (mentioned_in_factors f.factors) (union (union f.summed f.given) sets)
read_by (by_split f) sets = union (mentioned f) sets

-- those that are read for an effect
abbrev pub read_in : PlainPaired → ℕ
read_in e = read_by e.reading (sets_of e)

-- what is free in the reading beside these sets: it is read at its first level
abbrev pub free_by : PlainReading → (sets : ℕ) → ℕ
free_by (by_factors f) sets = minus (free_in_factors f.factors) (union f.summed sets)
free_by (by_split f) sets = minus (free_of f) sets

-- what is free beside x, y and what is given
abbrev pub pinned_in : PlainPaired → ℕ
pinned_in e = free_by e.reading (sets_of e)

-- the reading can be evaluated over a table
abbrev pub IsReadable : PlainPaired → Table → PlainReading → Type 0
IsReadable e t (by_factors f) = AreEvaluable e.vertices t f
IsReadable e t (by_split joint) = IsSplitEvaluable e.vertices t e.x e.y e.given joint

-- the effect can be read over a table: its sets are three, there are at most 64 names with those of x as observed, and its reading can be evaluated
pub record IsOver (e : PlainPaired) (t : Table) : Type 0 where
  pub few : name_count e.vertices e.x ≤ 64
  pub sets : AreThreeSets e.vertices (has e.x) (has e.y) (has e.given)
  pub counts : AreCounts t
  pub below : (v : ℕ) → is_used t v ≡ true → v < e.vertices
  pub readable : IsReadable e t e.reading
