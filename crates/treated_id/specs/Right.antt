-- What is proved of the formula.
use Rattle.std.specs.Prelude.{ℕ, ◌<◌, ◌≡◌, false, IsTrue}
use Rattle.mixed_graph.specs.Vocabulary.{has, MixedGraph, IsMixedGraph}
use Rattle.prob_expr.specs.Vocabulary.{PlainFormula}
use Rattle.treated_models.specs.Vocabulary.{EqualsAmong}
use Rattle.treated_id.specs.Sets.{AreBefore, IsConfounded}
use Rattle.treated_id.specs.Terms.{IsFormula}

-- x, y and z are sets of vertices no two of which meet, and x and z don't come after x
pub record IsTreatedTarget (g : MixedGraph) (x y z : ℕ) : Type 0 where
  pub x_low : (v : ℕ) → IsTrue (has x v) → v < g.vertices
  pub y_low : (v : ℕ) → IsTrue (has y v) → v < g.vertices
  pub z_low : (v : ℕ) → IsTrue (has z v) → v < g.vertices
  pub x_off_y : (v : ℕ) → IsTrue (has x v) → has y v ≡ false
  pub z_off_y : (v : ℕ) → IsTrue (has z v) → has y v ≡ false
  pub x_off_z : (v : ℕ) → IsTrue (has x v) → has z v ≡ false
  pub before : AreBefore g x z

-- where nothing is confounded the formula has the value of the effect among the treated
abbrev pub FormulaIsRight : Type 0
FormulaIsRight = (g : MixedGraph) → IsMixedGraph g → (x y z : ℕ) → IsTreatedTarget g x y z → (IsConfounded g x y z → ⊥)
    → (f : PlainFormula) → IsFormula g x y z f → EqualsAmong g x y z f
