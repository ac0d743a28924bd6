-- What is true of the models of a diagram with hidden vertices.
use Rattle.std.specs.Prelude.{ℕ, ◌*◌, ◌≡◌, Bool}
use Rattle.mixed_graph.specs.Vocabulary.{MixedGraph, IsMixedGraph}
use Rattle.fractions.specs.Vocabulary.{IsEqual}
use Rattle.finite_models.specs.Vocabulary.{FiniteModel, Fits, IsAssignment, IsPositiveModel, weight_of, total}
use Rattle.latent_projection.specs.Vocabulary.{IsObserved}
use Rattle.prob_expr.specs.Vocabulary.{PlainFormula, PlainTarget, weights_of, value_of, effect, EqualsEffect}
use Rattle.hidden_models.specs.Folding.{Folds, IsObservedPositive, values_after, drawn_weights, drawn_effect}

-- a model of the observed graph q that folds m
pub record HasFolded (q : MixedGraph) (l : ℕ → Bool) (m : FiniteModel) : Type 0 where
  pub folded : FiniteModel
  pub fits : Fits q folded
  pub folds : Folds l m folded

-- every model of a graph with hidden vertices has one of the observed graph that folds it
abbrev pub EachHasFolded : Type 0
EachHasFolded = (g : MixedGraph) → IsMixedGraph g → (l : ℕ → Bool) (q : MixedGraph) → IsObserved g l q → (m : FiniteModel) → Fits g m → HasFolded q l m

-- what folds a model that is positive on the observed vertices is positive
abbrev pub FoldedIsPositive : Type 0
FoldedIsPositive = (g : MixedGraph) → IsMixedGraph g → (l : ℕ → Bool) (q : MixedGraph) → IsObserved g l q → (m m' : FiniteModel) → Fits g m → Fits q m'
    → Folds l m m'
    → IsObservedPositive l m → IsPositiveModel m'

-- each event of the observed vertices, in their new numbers, has in it the probability that it has in the model itself, under every intervention on them
abbrev pub FoldedKeepsWeights : Type 0
FoldedKeepsWeights = (g : MixedGraph) → IsMixedGraph g → (l : ℕ → Bool) (q : MixedGraph) → IsObserved g l q → (m m' : FiniteModel) → Fits g m → Fits q m'
    → Folds l m m'
    → (b a : ℕ → Bool) (s : ℕ → ℕ) → IsAssignment m'.vertices m'.size s → (drawn_weights l m).weight b a s * total m' ≡ weight_of m' b a s * total m

-- and each formula over the observed vertices has in it the value that it has where its terms are taken in the model itself
abbrev pub FoldedKeepsValues : Type 0
FoldedKeepsValues = (g : MixedGraph) → IsMixedGraph g → (l : ℕ → Bool) (q : MixedGraph) → IsObserved g l q → (m m' : FiniteModel) → Fits g m → Fits q m'
    → Folds l m m'
    → IsObservedPositive l m → (f : PlainFormula) (s : ℕ → ℕ) → IsAssignment m.vertices m.size s
    → IsEqual (value_of (drawn_weights l m) f (values_after l m.vertices s)) (value_of (weights_of m') f (values_after l m.vertices s))

-- so has each effect
abbrev pub FoldedKeepsEffects : Type 0
FoldedKeepsEffects = (g : MixedGraph) → IsMixedGraph g → (l : ℕ → Bool) (q : MixedGraph) → IsObserved g l q → (m m' : FiniteModel) → Fits g m → Fits q m'
    → Folds l m m'
    → IsObservedPositive l m → (t : PlainTarget) (s : ℕ → ℕ) → IsAssignment m.vertices m.size s
    → IsEqual (effect m' t (values_after l m.vertices s)) (drawn_effect l m t s)

-- The formula has the value of the effect of its target in the diagram as drawn: in every model of the graph with its hidden vertices, whatever their
-- mechanisms, that is positive on the observed ones, at each assignment. The values of the formula's terms are taken in that model.
abbrev pub EqualsAsDrawn : MixedGraph → (ℕ → Bool) → PlainTarget → PlainFormula → Type 0
EqualsAsDrawn g l t f = (m : FiniteModel) → Fits g m → IsObservedPositive l m → (s : ℕ → ℕ) → IsAssignment m.vertices m.size s
    → IsEqual (value_of (drawn_weights l m) f (values_after l m.vertices s)) (drawn_effect l m t s)

-- Hence what equals the effect in every positive model of the observed graph equals it in the diagram as drawn.
abbrev pub RightIsRightAsDrawn : Type 0
RightIsRightAsDrawn = (g : MixedGraph) → IsMixedGraph g → (l : ℕ → Bool) (q : MixedGraph) → IsObserved g l q → (t : PlainTarget) (f : PlainFormula)
    → EqualsEffect q t f → EqualsAsDrawn g l t f
