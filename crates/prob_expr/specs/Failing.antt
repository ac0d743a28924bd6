-- A model in which a formula isn't the effect.
use Rattle.std.specs.Prelude.{ℕ}
use Rattle.mixed_graph.specs.Vocabulary.{MixedGraph}
use Rattle.fractions.specs.Vocabulary.{IsEqual}
use Rattle.finite_models.specs.Vocabulary.{FiniteModel, Fits, IsAssignment, IsPositiveModel, ServesTwo}
use Rattle.prob_expr.specs.Tree.{PlainFormula, PlainTarget}
use Rattle.prob_expr.specs.Values.{weights_of, value_of, effect}

-- in some positive model that fits the graph, whose causes serve two vertices at most, a formula isn't the effect of the target, at some assignment
pub record FailsSomewhere (g : MixedGraph) (t : PlainTarget) (f : PlainFormula) : Type 0 where
  pub model : FiniteModel
  pub fits : Fits g model
  pub positive : IsPositiveModel model
  pub two : ServesTwo model
  pub at : ℕ → ℕ
  pub within : IsAssignment model.vertices model.size at
  pub unequal : IsEqual (value_of (weights_of model) f at) (effect model t at) → ⊥
