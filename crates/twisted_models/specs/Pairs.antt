-- Pairs of a model and a twist of it in which a nested effect differs.
use Rattle.std.specs.Prelude.{ℕ, ◌≡◌, ◌≢◌}
use Rattle.mixed_graph.specs.Vocabulary.{has, MixedGraph, IsMixedGraph}
use Rattle.fractions.specs.Vocabulary.{IsEqual}
use Rattle.finite_models.specs.Vocabulary.{AgreeObserved, FiniteModel, Fits, IsAssignment, IsPositiveModel, ServesTwo}
use Rattle.nested_models.specs.Vocabulary.{weight_of_nested, nested_effect}
use Rattle.twisted_models.specs.Twisted.{with_mechanism, IsTwist}

-- A model and a twist of it that fit the graph, each cause of which serves one vertex or two, where the nested event has a world in the one, and none in
-- the other.
pub record AreApart (g : MixedGraph) (x m y z : ℕ) : Type 0 where
  pub model : FiniteModel
  pub twisted : ℕ → (ℕ → ℕ) → (ℕ → ℕ) → ℕ
  pub fits : Fits g model
  pub twisted_fits : Fits g (with_mechanism model twisted)
  pub is_twist : IsTwist model twisted
  pub two : ServesTwo model
  pub s : ℕ → ℕ
  pub t : ℕ → ℕ
  pub s_values : IsAssignment model.vertices model.size s
  pub t_values : IsAssignment model.vertices model.size t
  pub possible : weight_of_nested model (has x) (has m) (has y) (has z) s t ≢ 0
  pub impossible : weight_of_nested (with_mechanism model twisted) (has x) (has m) (has y) (has z) s t ≡ 0

-- two positive models of the graph, each cause of which serves one vertex or two, with equal observed probabilities and different P(y[x, m[x']] | z)
pub record DifferOnNested (g : MixedGraph) (x m y z : ℕ) : Type 0 where
  pub first : FiniteModel
  pub second : FiniteModel
  pub first_fits : Fits g first
  pub second_fits : Fits g second
  pub first_positive : IsPositiveModel first
  pub second_positive : IsPositiveModel second
  pub first_two : ServesTwo first
  pub second_two : ServesTwo second
  pub agree : AgreeObserved first second
  pub s : ℕ → ℕ
  pub t : ℕ → ℕ
  pub s_values : IsAssignment first.vertices first.size s
  pub t_values : IsAssignment first.vertices first.size t
  pub differ : IsEqual (nested_effect first (has x) (has m) (has y) (has z) s t) (nested_effect second (has x) (has m) (has y) (has z) s t) → ⊥

-- such a pair becomes positive by noise, and still differs
abbrev pub ApartDiffer : Type 0
ApartDiffer = (g : MixedGraph) → IsMixedGraph g → (x m y z : ℕ) → AreApart g x m y z → DifferOnNested g x m y z
