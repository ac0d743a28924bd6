-- Interventional effects in the models of a diagram with hidden vertices. Vertices are those of the observed graph, in their new numbers.
use Rattle.std.specs.Prelude.{ℕ, Bool, Option, Some, None}
use Rattle.mixed_graph.specs.Vocabulary.{MixedGraph}
use Rattle.fractions.specs.Vocabulary.{IsEqual}
use Rattle.finite_models.specs.Vocabulary.{FiniteModel, Fits, IsAssignment}
use Rattle.prob_expr.specs.Vocabulary.{PlainFormula, formula_view}
use Rattle.hidden_models.specs.Vocabulary.{IsObservedPositive, drawn_weights, EqualsAsDrawn}
use Rattle.interventional_id.specs.declared.answer.Interventional.{Interventional}
use Rattle.interventional_id.specs.Interventional.{on_mediators, on_outcome, interventional_value, interventional_effect}

-- The sum over m of the product of the values of two formulas is the interventional effect in the diagram as drawn: in every model of the graph with its
-- hidden vertices, whatever their mechanisms, that is positive on the observed ones, at each assignment of these.
abbrev pub EqualsInterventionalAsDrawn : MixedGraph → (ℕ → Bool) → (x m y z : ℕ) → (f h : PlainFormula) → Type 0
EqualsInterventionalAsDrawn g l x m y z f h = (w : FiniteModel) → Fits g w → IsObservedPositive l w → (s t : ℕ → ℕ)
    → IsAssignment (drawn_weights l w).vertices (drawn_weights l w).size s → IsAssignment (drawn_weights l w).vertices (drawn_weights l w).size t
    → IsEqual (interventional_value (drawn_weights l w) x m f h s t) (interventional_effect (drawn_weights l w) x m y z s t)

-- both formulas equal their effects there, and the sum of their product the interventional effect
pub record AreFormulasAsDrawn (g : MixedGraph) (l : ℕ → Bool) (x m y z : ℕ) (f h : PlainFormula) : Type 0 where
  pub mediators : EqualsAsDrawn g l (on_mediators x m z) f
  pub outcome : EqualsAsDrawn g l (on_outcome x m y z) h
  pub equals : EqualsInterventionalAsDrawn g l x m y z f h

-- so of an answer that has formulas
abbrev pub IsRightAsDrawn : MixedGraph → (ℕ → Bool) → (x m y z : ℕ) → Option Interventional → Type 0
IsRightAsDrawn g l x m y z (Some i) = AreFormulasAsDrawn g l x m y z (formula_view i.mediators) (formula_view i.outcome)
IsRightAsDrawn g l x m y z None = Unit {0}
