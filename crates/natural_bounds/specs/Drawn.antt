-- What bounds an effect in every model of the observed graph does so in the diagram as drawn.
use Rattle.std.specs.Prelude.{ℕ, ◌≡◌, ◌<◌, Bool}
use Rattle.mixed_graph.specs.Vocabulary.{MixedGraph, IsMixedGraph}
use Rattle.fractions.specs.Vocabulary.{Fraction}
use Rattle.finite_models.specs.Vocabulary.{FiniteModel, Fits, IsAssignment, probability}
use Rattle.latent_projection.specs.Vocabulary.{IsObserved}
use Rattle.prob_expr.specs.Vocabulary.{Weights}
use Rattle.hidden_models.specs.Vocabulary.{IsMatchedAsDrawn, values_after, set_before}
use Rattle.natural_bounds.specs.declared.ends.End.{End}
use Rattle.natural_bounds.specs.Orders.{Bounds}
use Rattle.natural_bounds.specs.Bounds.{BoundsEffect, HasNoModel}

-- f bounds P(y | do(x), c), sets of observed vertices in their new numbers, in every model of the diagram as drawn that has these weights, positive
-- or not, at each assignment in which the observed vertices have the values of s
abbrev pub BoundsAsDrawn : End → MixedGraph → (l x y c used : ℕ → Bool) → Weights → ℕ → (ℕ → ℕ) → Fraction → Type 0
BoundsAsDrawn end g l x y c used n all s f = (m : FiniteModel) → Fits g m → IsMatchedAsDrawn l used n all m → (a : ℕ → ℕ)
    → IsAssignment m.vertices m.size a → ((k : ℕ) → k < n.vertices → values_after l m.vertices a k ≡ s k)
    → Bounds end f (probability m (set_before l x) (set_before l y) (set_before l c) a)

-- no model of the diagram as drawn has these weights
abbrev pub HasNoModelAsDrawn : MixedGraph → (l used : ℕ → Bool) → Weights → ℕ → Type 0
HasNoModelAsDrawn g l used n all = (m : FiniteModel) → Fits g m → IsMatchedAsDrawn l used n all m → ⊥

-- what bounds an effect in every model of the observed graph q bounds it as drawn
abbrev pub BoundingIsAsDrawn : Type 0
BoundingIsAsDrawn = (end : End) (g : MixedGraph) → IsMixedGraph g → (l : ℕ → Bool) (q : MixedGraph) → IsObserved g l q → (x y c used : ℕ → Bool)
    (n : Weights) (all : ℕ) (s : ℕ → ℕ) (f : Fraction) → BoundsEffect end q x y c used n all s f → BoundsAsDrawn end g l x y c used n all s f

-- and weights that no model of q has no model has as drawn
abbrev pub NoModelIsAsDrawn : Type 0
NoModelIsAsDrawn = (g : MixedGraph) → IsMixedGraph g → (l : ℕ → Bool) (q : MixedGraph) → IsObserved g l q → (used : ℕ → Bool) (n : Weights) (all : ℕ)
    → HasNoModel q used n all → HasNoModelAsDrawn g l used n all
