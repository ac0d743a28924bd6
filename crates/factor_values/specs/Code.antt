-- Factors as the code has them, and when they can be evaluated over counts.
use Rattle.std.specs.Prelude.{ℕ, ◌≡◌, ◌≤◌, ◌<◌, true, All, map}
use Rattle.mixed_graph.specs.Vocabulary.{has}
use Rattle.prob_expr.specs.Vocabulary.{formula_view}
use Rattle.count_rows.specs.Vocabulary.{Table}
use Rattle.count_eval.specs.Vocabulary.{IsEvaluable, is_used}
use Rattle.factor_values.specs.Factors.{PlainFactor, PlainFactors}
use Rattle.factor_values.specs.declared.factors.Factor.{Factor}
use Rattle.factor_values.specs.declared.factors.Factors.{Factors}

-- the plain factor
abbrev pub factor_view : Factor → PlainFactor
factor_view f = record { second = f.second.bits; formula = formula_view f.formula }

-- the plain sum of a product of factors, over a probability
abbrev pub factors_view : Factors → PlainFactors
factors_view e = record { summed = e.summed.bits; factors = map factor_view e.factors.items; given = e.given.bits }

-- Factors can be evaluated over the counts of a graph on n vertices: each formula can, and all other vertices are used.
pub record AreEvaluable (n : ℕ) (t : Table) (e : PlainFactors) : Type 0 where
  pub few : n ≤ 64
  pub below : (v : ℕ) → is_used t v ≡ true → v < n
  pub summed : (v : ℕ) → has e.summed v ≡ true → is_used t v ≡ true
  pub factors : All (λ f. IsEvaluable n t f.formula) e.factors
  pub given : (v : ℕ) → has e.given v ≡ true → is_used t v ≡ true
