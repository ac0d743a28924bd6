-- What separations and rules say of the diagram as drawn. Their sets are sets of observed vertices, in their new numbers.
use Rattle.std.specs.Prelude.{ℕ, ◌*◌, ◌≡◌, ◌≢◌, Bool, false, ◌||◌}
use Rattle.mixed_graph.specs.Vocabulary.{MixedGraph, IsMixedGraph}
use Rattle.fractions.specs.Vocabulary.{Fraction, over, IsEqual}
use Rattle.finite_models.specs.Vocabulary.{FiniteModel, Fits, IsAssignment}
use Rattle.latent_projection.specs.Vocabulary.{IsObserved}
use Rattle.do_rules.specs.Vocabulary.{AreIndependent, AreDependent, Side, AreEqualSides, DifferSomewhere}
use Rattle.hidden_models.specs.Folding.{IsObservedPositive, drawn_weights}

-- the weight of an event in a model of the diagram as drawn
abbrev pub seen_weight : (ℕ → Bool) → FiniteModel → (ℕ → Bool) → (ℕ → ℕ) → ℕ
seen_weight l m a s = (drawn_weights l m).weight (λ k. false) a s

-- in every model of the graph with its hidden vertices, positive or not, x and y are independent given w, at each assignment
abbrev pub AreIndependentAsDrawn : MixedGraph → (ℕ → Bool) → (x y w : ℕ → Bool) → Type 0
AreIndependentAsDrawn g l x y w = (m : FiniteModel) → Fits g m → (s : ℕ → ℕ) → IsAssignment (drawn_weights l m).vertices (drawn_weights l m).size s
    → seen_weight l m (λ k. x k || (y k || w k)) s * seen_weight l m w s ≡ seen_weight l m (λ k. x k || w k) s * seen_weight l m (λ k. y k || w k) s

-- in some model of that graph, positive on the observed vertices, x and y are dependent given w, at some assignment
pub record AreDependentAsDrawn (g : MixedGraph) (l : ℕ → Bool) (x y w : ℕ → Bool) : Type 0 where
  pub model : FiniteModel
  pub fits : Fits g model
  pub positive : IsObservedPositive l model
  pub at : ℕ → ℕ
  pub within : IsAssignment (drawn_weights l model).vertices (drawn_weights l model).size at
  pub unequal : seen_weight l model (λ k. x k || (y k || w k)) at * seen_weight l model w at
      ≢ seen_weight l model (λ k. x k || w k) at * seen_weight l model (λ k. y k || w k) at

-- the probability of a side of a rule in a model of the diagram as drawn
abbrev pub drawn_side : (ℕ → Bool) → FiniteModel → Side → (ℕ → ℕ) → Fraction
drawn_side l m side s = over ((drawn_weights l m).weight side.doing (λ k. side.of k || side.given k) s) ((drawn_weights l m).weight side.doing side.given s)

-- two sides are equal in every model of the graph with its hidden vertices that is positive on the observed ones, at each assignment
abbrev pub AreEqualSidesAsDrawn : MixedGraph → (ℕ → Bool) → (left right : Side) → Type 0
AreEqualSidesAsDrawn g l left right = (m : FiniteModel) → Fits g m → IsObservedPositive l m
    → (s : ℕ → ℕ) → IsAssignment (drawn_weights l m).vertices (drawn_weights l m).size s → IsEqual (drawn_side l m left s) (drawn_side l m right s)

-- in some such model they differ, at some assignment
pub record DifferSomewhereAsDrawn (g : MixedGraph) (l : ℕ → Bool) (left right : Side) : Type 0 where
  pub model : FiniteModel
  pub fits : Fits g model
  pub positive : IsObservedPositive l model
  pub at : ℕ → ℕ
  pub within : IsAssignment (drawn_weights l model).vertices (drawn_weights l model).size at
  pub unequal : IsEqual (drawn_side l model left at) (drawn_side l model right at) → ⊥

-- what is independent in every model of the observed graph q is so in the diagram as drawn
abbrev pub IndependenceIsDrawn : Type 0
IndependenceIsDrawn = (g : MixedGraph) → IsMixedGraph g → (l : ℕ → Bool) (q : MixedGraph) → IsObserved g l q → (x y w : ℕ → Bool)
    → AreIndependent q x y w → AreIndependentAsDrawn g l x y w

-- and what is dependent in some
abbrev pub DependenceIsDrawn : Type 0
DependenceIsDrawn = (g : MixedGraph) → IsMixedGraph g → (l : ℕ → Bool) (q : MixedGraph) → IsObserved g l q → (x y w : ℕ → Bool)
    → AreDependent q x y w → AreDependentAsDrawn g l x y w

-- an equation of two sides that holds in every positive model of q holds in the diagram as drawn
abbrev pub EquationIsDrawn : Type 0
EquationIsDrawn = (g : MixedGraph) → IsMixedGraph g → (l : ℕ → Bool) (q : MixedGraph) → IsObserved g l q → (left right : Side)
    → AreEqualSides q left right → AreEqualSidesAsDrawn g l left right

-- and one that fails in some
abbrev pub FailureIsDrawn : Type 0
FailureIsDrawn = (g : MixedGraph) → IsMixedGraph g → (l : ℕ → Bool) (q : MixedGraph) → IsObserved g l q → (left right : Side)
    → DifferSomewhere q left right → DifferSomewhereAsDrawn g l left right
