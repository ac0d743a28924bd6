-- What is proved of the derivations of the procedure's formulas.
use Rattle.std.specs.Prelude.{ℕ, [], IsTrue}
use Rattle.mixed_graph.specs.Vocabulary.{MixedGraph, IsMixedGraph}
use Rattle.prob_expr.specs.Vocabulary.{PlainFormula}
use Rattle.do_derivation.specs.Vocabulary.{PlainDerivation}
use Rattle.do_derivation.specs.Accepts.{Accepts}
use Rattle.identification_theory.specs.Depth.{is_plan_within, are_lemmas_within}
use Rattle.identification_theory.specs.Derivations.{IsDerived}
use Rattle.identification_theory.specs.Procedure.{IsTarget, IsIdentified}

-- The derivation is accepted for P(y | do(x)) and the formula, with no intervention left. The steps of its main nest at most 14 deep, those of a
-- lemma at most 10.
pub record IsAcceptedFor (g : MixedGraph) (x y : ℕ) (f : PlainFormula) (d : PlainDerivation) : Type 0 where
  pub accepted : Accepts g [] (record { x = x; y = y; given = 0 }) f d
  pub main_deep : IsTrue (is_plan_within 14 d.main)
  pub lemmas_deep : IsTrue (are_lemmas_within 10 d.lemmas)

-- the formula that the procedure answers has its derivation, and that is accepted
abbrev pub FormulaIsAccepted : Type 0
FormulaIsAccepted = (g : MixedGraph) → IsMixedGraph g → (x y : ℕ) → IsTarget g x y → (f : PlainFormula) → IsIdentified g x y f → (d : PlainDerivation)
    × IsDerived g x y f d × IsAcceptedFor g x y f d
