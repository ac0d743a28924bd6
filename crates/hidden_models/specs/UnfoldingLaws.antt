-- What is true of models of the diagram as drawn that a model of the observed graph folds.
use Rattle.std.specs.Prelude.{ℕ, ◌≡◌, Bool, true, List}
use Rattle.mixed_graph.specs.Vocabulary.{MixedGraph, IsMixedGraph}
use Rattle.finite_models.specs.Vocabulary.{FiniteModel, Fits, IsAssignment, IsPositiveModel, AgreeObserved, ServesTwo}
use Rattle.latent_projection.specs.Vocabulary.{IsObserved}
use Rattle.prob_expr.specs.Vocabulary.{DifferOnTarget, AgreeUnderAll, FailsSomewhere, is_do_free, PlainFormula, PlainTarget, effect}
use Rattle.fractions.specs.Vocabulary.{IsEqual}
use Rattle.hidden_models.specs.FoldingLaws.{EqualsAsDrawn}
use Rattle.hidden_models.specs.Folding.{Folds, IsObservedPositive}
use Rattle.hidden_models.specs.Unfolding.{IsFoldedFrom, NotIdentifiableAsDrawn, NotIdentifiableOverAsDrawn, FailsSomewhereAsDrawn}

-- every model of the observed graph each of whose causes serves one vertex or two folds a model of the diagram as drawn, and shares its worlds with it
abbrev pub EachIsFolded : Type 0
EachIsFolded = (g : MixedGraph) → IsMixedGraph g → (l : ℕ → Bool) (q : MixedGraph) → IsObserved g l q → (m : FiniteModel) → Fits q m → ServesTwo m
    → IsFoldedFrom g l m

-- what a positive model folds is positive on the observed vertices
abbrev pub UnfoldedIsPositive : Type 0
UnfoldedIsPositive = (g : MixedGraph) → IsMixedGraph g → (l : ℕ → Bool) (q : MixedGraph) → IsObserved g l q → (m m' : FiniteModel) → Fits g m → Fits q m'
    → Folds l m m'
    → IsPositiveModel m' → IsObservedPositive l m

-- so two such models that show that an effect isn't identifiable show it of the diagram as drawn
abbrev pub DifferenceIsDrawn : Type 0
DifferenceIsDrawn = (g : MixedGraph) → IsMixedGraph g → (l : ℕ → Bool) (q : MixedGraph) → IsObserved g l q → (m₁ m₂ : FiniteModel) → Fits q m₁ → Fits q m₂
    → ServesTwo m₁ → ServesTwo m₂
    → IsPositiveModel m₁ → IsPositiveModel m₂ → AgreeObserved m₁ m₂ → (t : PlainTarget) → DifferOnTarget m₁ m₂ t → NotIdentifiableAsDrawn g l t

-- and a formula without interventions that equals an effect in the diagram as drawn gives it one value in two such models that agree on all observations
abbrev pub FormulaAsDrawnFixes : Type 0
FormulaAsDrawnFixes = (g : MixedGraph) → IsMixedGraph g → (l : ℕ → Bool) (q : MixedGraph) → IsObserved g l q → (t : PlainTarget) (f : PlainFormula)
    → is_do_free f ≡ true
    → EqualsAsDrawn g l t f → (m₁ m₂ : FiniteModel) → Fits q m₁ → Fits q m₂ → ServesTwo m₁ → ServesTwo m₂ → IsPositiveModel m₁ → IsPositiveModel m₂
    → AgreeObserved m₁ m₂ → (s : ℕ → ℕ) → IsAssignment m₁.vertices m₁.size s → IsEqual (effect m₁ t s) (effect m₂ t s)

-- two that agree under experiments too show it of formulas over these
abbrev pub DifferenceOverIsDrawn : Type 0
DifferenceOverIsDrawn = (g : MixedGraph) → IsMixedGraph g → (l : ℕ → Bool) (q : MixedGraph) → IsObserved g l q → (m₁ m₂ : FiniteModel) → Fits q m₁ → Fits q m₂
    → ServesTwo m₁ → ServesTwo m₂
    → IsPositiveModel m₁ → IsPositiveModel m₂ → AgreeObserved m₁ m₂ → (zs : List ℕ) → AgreeUnderAll zs m₁ m₂ → (t : PlainTarget) → DifferOnTarget m₁ m₂ t
    → NotIdentifiableOverAsDrawn g l zs t

-- and a formula that isn't the effect in some such model isn't it in some model of the diagram as drawn
abbrev pub FormulaFailureIsDrawn : Type 0
FormulaFailureIsDrawn = (g : MixedGraph) → IsMixedGraph g → (l : ℕ → Bool) (q : MixedGraph) → IsObserved g l q → (t : PlainTarget) (f : PlainFormula)
    → FailsSomewhere q t f → FailsSomewhereAsDrawn g l t f
