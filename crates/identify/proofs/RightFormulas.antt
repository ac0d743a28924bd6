-- What the procedure answers where a formula alone is wanted is a right answer.
use Rattle.std.proofs.Common.{ℕ, ◌≤◌, ◌↔◌, refl, IsTrue, arith}
use Rattle.std.specs.Prelude.{Result, IfOk}
use Rattle.mixed_graph.specs.Vocabulary.{has, MixedGraph, IsMixedGraph, Apart}
use Rattle.prob_expr.specs.Vocabulary.{PlainFormula, formula_view}
use Rattle.do_derivation.specs.Vocabulary.{PlainDerivation}
use Rattle.identification_theory.proofs.Formulas.{formula_is_accepted}
use Rattle.identification_theory.specs.Vocabulary.{IsDerived, IsTarget}
use Rattle.hedge.specs.declared.hedge.Hedge.{Hedge as HedgeData}
use Rattle.hedge.specs.Vocabulary.{IsHedge}
use Rattle.counter_models.specs.declared.counter_pair.CounterPair.{CounterPair}
use Rattle.identify.specs.Answers.{IsFormulaAnswerOf, IsStopHedge, IsRightAlone, IfFormulaAlone, IfHedgeAlone, is_hedge_alone}
use Rattle.identify.specs.declared.answer.FormulaAnswer.{FormulaAnswer}
use Rattle.identify.specs.declared.answer.FormulaAnswer.TheVariants.{Formula, Hedge}
use Rattle.identify.proofs.RightAnswers.{if_ok, never_both, right_formula, right_hedge}

-- what is true of each formula that has a derivation is true of the answer
pub if_formula : {E : Type 0} (g : MixedGraph) → IsMixedGraph g → (x y : ℕ) → IsTarget g x y → (r : Result FormulaAnswer E) (P : PlainFormula → Type 0)
    → ((f : PlainFormula) (d : PlainDerivation) → IsDerived g x y f d → P f)
    → IfOk r (IsFormulaAnswerOf g x y) → IfOk r (λ a. IfFormulaAlone a P)
if_formula g valid x y target r P holds found = if_ok r (IsFormulaAnswerOf g x y) (λ a. IfFormulaAlone a P) each found
  where
    each : (a : FormulaAnswer) → IsFormulaAnswerOf g x y a → IfFormulaAlone a P
    each (Formula f) i = let k = formula_is_accepted g valid x y target (formula_view f) i in holds (formula_view f) k.0 k.1
    each (Hedge h pair) i = tt

-- what is true of each hedge with its two models is true of the answer
pub if_hedge : {E : Type 0} (g : MixedGraph) (x y : ℕ) (r : Result FormulaAnswer E) (P : HedgeData → CounterPair → Type 0)
    → ((h : HedgeData) (pair : CounterPair) → IsStopHedge g x y h pair → P h pair)
    → IfOk r (IsFormulaAnswerOf g x y) → IfOk r (λ a. IfHedgeAlone a P)
if_hedge g x y r P holds found = if_ok r (IsFormulaAnswerOf g x y) (λ a. IfHedgeAlone a P) each found
  where
    each : (a : FormulaAnswer) → IsFormulaAnswerOf g x y a → IfHedgeAlone a P
    each (Formula f) i = tt
    each (Hedge h pair) i = holds h pair i

module _ (g : MixedGraph) (valid : IsMixedGraph g) (few : g.vertices ≤ 64) (x y : ℕ) (target : IsTarget g x y) (off : Apart (has x) (has y)) where
  pub right : (a : FormulaAnswer) → IsFormulaAnswerOf g x y a → IsRightAlone g x y a
  right (Formula f) i =
      let k = formula_is_accepted g valid x y target (formula_view f) i in
      record { derivation = k.0; derived = k.1; right = right_formula g valid x y target (formula_view f) k.0 k.1 }
  right (Hedge h pair) i = right_hedge g valid few x y target off h pair i.2 i.3

  pub exact : (a : FormulaAnswer) → IsFormulaAnswerOf g x y a → IsTrue (is_hedge_alone a) ↔ ((h : HedgeData) × IsHedge g x y h)
  exact (Formula f) i =
      let k = formula_is_accepted g valid x y target (formula_view f) i in
      (λ t. absurd (grind (arith, t)), λ p. absurd (never_both g valid few x y target off (formula_view f) k.0 k.1 p.0 p.1))
  exact (Hedge h pair) i = (λ t. (h, i.2), λ p. refl)
