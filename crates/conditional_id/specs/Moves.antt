-- The observations that turn into interventions, one after the other.
use Rattle.std.specs.Prelude.{ℕ, ◌≡◌, ◌<◌, List, IsTrue}
use Rattle.mixed_graph.specs.Vocabulary.{has, MixedGraph}
use Rattle.do_derivation.specs.Plans.{Plans}
use Rattle.identify.specs.Vocabulary.{onto}
use Rattle.conditional_id.specs.Conditionals.{IsTurning, AreTurned, turned_steps}
use Rattle.conditional_id.specs.HedgeLaws.{HaveOpenWalks}
use Rattle.conditional_id.specs.declared.answer.Turned.{Turned}

-- v is the lowest observation that may
pub record IsLowestTurning (g : MixedGraph) (x y z v : ℕ) : Type 0 where
  pub member : IsTrue (has z v)
  pub turns : IsTurning g x y z v
  pub lowest : (u : ℕ) → u < v → IsTrue (has z u) → IsTurning g x y z u → ⊥

-- what the observations turn into, with the steps of the moves; an open walk to each that is left shows that it doesn't turn
pub record AreMoved (g : MixedGraph) (y x z : ℕ) (r : Turned) : Type 0 where
  pub moved : List ℕ
  pub turned : AreTurned g y x z r.doing.bits r.left.bits moved
  pub steps : (rest : Plans) → onto r.steps.items rest ≡ turned_steps moved rest
  pub walks : HaveOpenWalks g r.doing.bits y r.left.bits
