-- Right answers to the question for P(y | do(x)): the two halves of the theorem of Shpitser and Pearl (2006).
use Rattle.std.specs.Prelude.{ℕ, ◌≡◌, Bool, true, false, [], IsTrue, None}
use Rattle.mixed_graph.specs.Vocabulary.{has, MixedGraph, IsAncestor}
use Rattle.prob_expr.specs.Vocabulary.{fault_in, HasNoFormula, is_do_free, effect_on, PlainFormula, EqualsEffect, formula_view}
use Rattle.do_derivation.specs.Accepts.{Accepts}
use Rattle.do_derivation.specs.Vocabulary.{PlainDerivation, derivation_view}
use Rattle.identification_theory.specs.Vocabulary.{is_plan_within, are_lemmas_within, IsDerived, IsIdentified, IsUnidentified, is_tree_within, are_defs_within, FormulaNamesOnly}
use Rattle.hedge.specs.declared.hedge.Hedge.{Hedge}
use Rattle.hedge.specs.Vocabulary.{IsHedge, FormHedge}
use Rattle.counter_models.specs.declared.counter_pair.CounterPair.{CounterPair}
use Rattle.counter_models.specs.Vocabulary.{AreCounterModels, IsPairOf}
use Rattle.identify.specs.Hedged.{IsHedgeOf}
use Rattle.identify.specs.declared.answer.Answer.{Answer}
use Rattle.identify.specs.declared.answer.Answer.TheVariants as answers
use Rattle.identify.specs.declared.answer.FormulaAnswer.{FormulaAnswer}
use Rattle.identify.specs.declared.answer.FormulaAnswer.TheVariants as alone
use Rattle.identify.specs.declared.wanted.Wanted.{Wanted}
use Rattle.identify.specs.declared.wanted.Wanted.TheVariants.{Derivation}

-- the formula is accepted by the check of formulas, has no intervention left, and names ancestors of y alone; the derivation turns P(y | do(x)) into
-- it; and it equals the effect in each positive model of the graph, at each assignment
pub record IsRightFormula (g : MixedGraph) (x y : ℕ) (f : PlainFormula) (d : PlainDerivation) : Type 0 where
  pub formed : fault_in g.vertices f ≡ None
  pub do_free : is_do_free f ≡ true
  pub names : FormulaNamesOnly (IsAncestor g (has y)) f
  pub accepted : Accepts g [] (effect_on x y) f d
  pub effect : EqualsEffect g (effect_on x y) f

-- big and small form a hedge for the effect of x on y, and its two models, which are positive and of the graph, agree on all observations and differ
-- on the effect; so no formula without interventions equals it
pub record IsRightHedge (g : MixedGraph) (x y : ℕ) (h : Hedge) (pair : CounterPair) : Type 0 where
  pub hedge : FormHedge g x y h.big.bits h.small.bits h.roots.bits
  pub counter : AreCounterModels g x y pair
  pub no_formula : HasNoFormula g (effect_on x y)

-- A right answer is either a formula without interventions, with an accepted derivation, that equals the effect of x on y in each positive model of
-- the graph; or a hedge, with two positive models of the graph that agree on all observations and differ on the effect, under every value of x, so
-- that no such formula exists.
abbrev pub IsRight : MixedGraph → (x y : ℕ) → Answer → Type 0
IsRight g x y (answers.Formula f d) = IsRightFormula g x y (formula_view f) (derivation_view d)
IsRight g x y (answers.Hedge h pair) = IsRightHedge g x y h pair

-- the fact holds of the formula and its derivation, where they are answered
abbrev pub IfFormula : Answer → (PlainFormula → PlainDerivation → Type 0) → Type 0
IfFormula (answers.Formula f d) P = P (formula_view f) (derivation_view d)
IfFormula (answers.Hedge h pair) P = Unit {0}

-- the fact holds of the hedge and its two models, where they are answered
abbrev pub IfHedge : Answer → (Hedge → CounterPair → Type 0) → Type 0
IfHedge (answers.Formula f d) P = Unit {0}
IfHedge (answers.Hedge h pair) P = P h pair

-- a hedge is answered
abbrev pub is_hedge : Answer → Bool
is_hedge (answers.Formula f d) = false
is_hedge (answers.Hedge h pair) = true

-- steps nest at most 14 deep in main, and at most 10 in a lemma
pub record AreShallowSteps (d : PlainDerivation) : Type 0 where
  pub main : IsTrue (is_plan_within 14 d.main)
  pub lemmas : IsTrue (are_lemmas_within 10 d.lemmas)

-- nodes nest at most 7 deep in main, and at most 5 in a definition
pub record IsShallowFormula (f : PlainFormula) : Type 0 where
  pub main : IsTrue (is_tree_within 7 f.main)
  pub defs : IsTrue (are_defs_within 5 f.defs)

-- the hedge is that at which the procedure stops, with its data and its two models
abbrev pub IsStopHedge : MixedGraph → (x y : ℕ) → Hedge → CounterPair → Type 0
IsStopHedge g x y h pair = IsUnidentified g x y h.small.bits h.big.bits × IsHedgeOf g h × IsHedge g x y h × IsPairOf g x y h pair

-- what the procedure answers: its formula, and where it is wanted the derivation; or the hedge at which it stops, with its two models
abbrev pub IsAnswerOf : Wanted → MixedGraph → (x y : ℕ) → Answer → Type 0
IsAnswerOf wanted g x y (answers.Formula f d) =
    IsIdentified g x y (formula_view f) × (wanted ≡ Derivation → IsDerived g x y (formula_view f) (derivation_view d))
IsAnswerOf wanted g x y (answers.Hedge h pair) = IsStopHedge g x y h pair

-- ---- a formula alone

-- the formula is right by the derivation that the procedure has for it, which needn't be made
pub record IsRightByDerivation (g : MixedGraph) (x y : ℕ) (f : PlainFormula) : Type 0 where
  pub derivation : PlainDerivation
  pub derived : IsDerived g x y f derivation
  pub right : IsRightFormula g x y f derivation

-- A right answer without a derivation: a formula that is right by one, or a hedge as in a right answer with a derivation.
abbrev pub IsRightAlone : MixedGraph → (x y : ℕ) → FormulaAnswer → Type 0
IsRightAlone g x y (alone.Formula f) = IsRightByDerivation g x y (formula_view f)
IsRightAlone g x y (alone.Hedge h pair) = IsRightHedge g x y h pair

-- the fact holds of the formula, where it is answered
abbrev pub IfFormulaAlone : FormulaAnswer → (PlainFormula → Type 0) → Type 0
IfFormulaAlone (alone.Formula f) P = P (formula_view f)
IfFormulaAlone (alone.Hedge h pair) P = Unit {0}

-- the fact holds of the hedge and its two models, where they are answered
abbrev pub IfHedgeAlone : FormulaAnswer → (Hedge → CounterPair → Type 0) → Type 0
IfHedgeAlone (alone.Formula f) P = Unit {0}
IfHedgeAlone (alone.Hedge h pair) P = P h pair

-- a hedge is answered
abbrev pub is_hedge_alone : FormulaAnswer → Bool
is_hedge_alone (alone.Formula f) = false
is_hedge_alone (alone.Hedge h pair) = true

-- what the procedure answers where a formula alone is wanted: its formula, or the hedge at which it stops
abbrev pub IsFormulaAnswerOf : MixedGraph → (x y : ℕ) → FormulaAnswer → Type 0
IsFormulaAnswerOf g x y (alone.Formula f) = IsIdentified g x y (formula_view f)
IsFormulaAnswerOf g x y (alone.Hedge h pair) = IsStopHedge g x y h pair
