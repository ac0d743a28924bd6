-- Right answers to the question for an interventional effect.
use Rattle.std.specs.Prelude.{ℕ, ◌≡◌, ◌⊎◌, true, Option, Some, None}
use Rattle.mixed_graph.specs.Vocabulary.{MixedGraph}
use Rattle.prob_expr.specs.Vocabulary.{fault_in, is_do_free, HasNoFormula, EqualsEffect, PlainFormula, PlainTarget, formula_view}
use Rattle.prob_expr.specs.declared.expr.Formula.{Formula}
use Rattle.interventional_id.specs.declared.answer.Interventional.{Interventional}
use Rattle.interventional_id.specs.Interventional.{on_mediators, on_outcome, EqualsInterventional}

-- the formula is accepted by the check of formulas, has no intervention, and equals the effect of the target in each positive model of the graph
pub record IsFormulaOf (g : MixedGraph) (t : PlainTarget) (f : PlainFormula) : Type 0 where
  pub formed : fault_in g.vertices f ≡ None
  pub do_free : is_do_free f ≡ true
  pub effect : EqualsEffect g t f

-- such a formula, or the effect has no formula without interventions
abbrev pub IsFormulaOrNone : MixedGraph → PlainTarget → Option Formula → Type 0
IsFormulaOrNone g t (Some f) = IsFormulaOf g t (formula_view f)
IsFormulaOrNone g t None = HasNoFormula g t

-- these are formulas of both effects, and the sum over m of their product equals the interventional effect
pub record AreFormulas (g : MixedGraph) (x m y z : ℕ) (f h : PlainFormula) : Type 0 where
  pub mediators : IsFormulaOf g (on_mediators x m z) f
  pub outcome : IsFormulaOf g (on_outcome x m y z) h
  pub equals : EqualsInterventional g x m y z f h

-- a right answer has formulas of both effects; or there is none, since one of them has no formula without interventions
abbrev pub IsRight : MixedGraph → (x m y z : ℕ) → Option Interventional → Type 0
IsRight g x m y z (Some i) = AreFormulas g x m y z (formula_view i.mediators) (formula_view i.outcome)
IsRight g x m y z None = HasNoFormula g (on_mediators x m z) ⊎ HasNoFormula g (on_outcome x m y z)
