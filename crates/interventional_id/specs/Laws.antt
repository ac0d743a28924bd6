-- What is proved of the formulas of the two effects.
use Rattle.std.specs.Prelude.{ℕ, Bool}
use Rattle.mixed_graph.specs.Vocabulary.{MixedGraph, IsMixedGraph}
use Rattle.latent_projection.specs.Vocabulary.{IsObserved}
use Rattle.prob_expr.specs.Vocabulary.{EqualsEffect, PlainFormula}
use Rattle.interventional_id.specs.Interventional.{on_mediators, on_outcome, EqualsInterventional}
use Rattle.interventional_id.specs.Drawn.{AreFormulasAsDrawn}

-- the sum over m of the product of formulas that equal the two effects is the interventional effect
abbrev pub FormulasGiveInterventional : Type 0
FormulasGiveInterventional = (g : MixedGraph) (x m y z : ℕ) (f h : PlainFormula) → EqualsEffect g (on_mediators x m z) f
    → EqualsEffect g (on_outcome x m y z) h → EqualsInterventional g x m y z f h

-- formulas that equal the two effects in the observed graph q do so in the diagram as drawn, and so does the sum of their product
abbrev pub InterventionalIsDrawn : Type 0
InterventionalIsDrawn = (g : MixedGraph) → IsMixedGraph g → (l : ℕ → Bool) (q : MixedGraph) → IsObserved g l q → (x m y z : ℕ) (f h : PlainFormula)
    → EqualsEffect q (on_mediators x m z) f → EqualsEffect q (on_outcome x m y z) h → AreFormulasAsDrawn g l x m y z f h
