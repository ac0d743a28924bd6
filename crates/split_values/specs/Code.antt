-- When such an effect can be evaluated over counts.
use Rattle.std.specs.Prelude.{ℕ, ◌≡◌, true}
use Rattle.mixed_graph.specs.Vocabulary.{has}
use Rattle.prob_expr.specs.Vocabulary.{PlainFormula}
use Rattle.count_rows.specs.Vocabulary.{Table}
use Rattle.count_eval.specs.Vocabulary.{IsEvaluable, is_used}

-- The effect can be evaluated over the counts of a graph on n vertices: the joint effect's formula can, and all other vertices are used.
pub record IsSplitEvaluable (n : ℕ) (t : Table) (x y z : ℕ) (joint : PlainFormula) : Type 0 where
  pub formula : IsEvaluable n t joint
  pub x_used : (v : ℕ) → has x v ≡ true → is_used t v ≡ true
  pub y_used : (v : ℕ) → has y v ≡ true → is_used t v ≡ true
  pub z_used : (v : ℕ) → has z v ≡ true → is_used t v ≡ true
