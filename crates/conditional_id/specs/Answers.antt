-- Right answers to the question for P(y | do(x), given) (Shpitser and Pearl 2006).
use Rattle.std.specs.Prelude.{ℕ, ◌≡◌, ◌≤◌, ◌↔◌, Bool, true, false, List, length, IsTrue}
use Rattle.mixed_graph.specs.declared.sets.VSet.{VSet}
use Rattle.mixed_graph.specs.Vocabulary.{MixedGraph, union}
use Rattle.finite_models.specs.Vocabulary.{meaning}
use Rattle.prob_expr.specs.Vocabulary.{DifferOnTarget, HasNoFormula, is_do_free, PlainFormula, PlainTarget, effect_on, EqualsEffect, formula_view}
use Rattle.do_derivation.specs.Vocabulary.{PlainDerivation, derivation_view}
use Rattle.identification_theory.specs.Vocabulary.{IsUnidentified}
use Rattle.hedge.specs.declared.hedge.Hedge.{Hedge}
use Rattle.hedge.specs.Vocabulary.{IsHedge}
use Rattle.counter_models.specs.declared.counter_pair.CounterPair.{CounterPair}
use Rattle.counter_models.specs.Vocabulary.{IsPairOf}
use Rattle.identify.specs.Vocabulary.{IsRightHedge, IsHedgeOf}
use Rattle.conditional_id.specs.Conditionals.{IsConditionalTarget, IsTurned, IsConditionalBySteps, AreEqualEffects}
use Rattle.conditional_id.specs.TurnLaws.{IsRightGiven}
use Rattle.conditional_id.specs.Settled.{IsSettled}
use Rattle.conditional_id.specs.HedgeLaws.{AreModelsOf, HaveOpenWalks}
use Rattle.conditional_id.specs.declared.answer.Conditional.{Conditional}
use Rattle.conditional_id.specs.declared.answer.Conditional.TheVariants as answers

-- P(y | do(x), given) turns into P(y | do(x'), z'): x is x', and y has z' too. Both effects are equal in each positive model of the graph, at each assignment.
pub record IsJointEffect (g : MixedGraph) (t : PlainTarget) (x y : ℕ) : Type 0 where
  pub left : ℕ
  pub moved : List ℕ
  pub turned : IsTurned g t x left moved
  pub joint : y ≡ union t.y left
  pub target : IsConditionalTarget g (effect_on x y)
  pub same : AreEqualEffects g t (record { x = x; y = t.y; given = left })

-- x and y are the joint effect into which the observations turn; big and small form a hedge for it, and its two models, which are positive and of the
-- graph, agree on all observations and differ on it
-- The target itself isn't identifiable.
pub record IsRightJoint (g : MixedGraph) (t : PlainTarget) (x y : ℕ) (settled : Bool) (h : Hedge) (pair : CounterPair) : Type 0 where
  pub effect : IsJointEffect g t x y
  pub hedge : IsRightHedge g x y h pair
  -- two positive models of the graph that agree on all observations give the target two values, at some assignment
  pub models : AreModelsOf g t
  -- so no formula without interventions equals it
  pub no_formula : HasNoFormula g t
  -- where no observation is left, or those that are left have an effect that is known, the two models of the hedge differ on the target too
  pub settled_is : IsTrue settled ↔ IsSettled g x effect.left
  pub target : IsTrue settled → DifferOnTarget (meaning g pair.first) (meaning g pair.second) t

-- A right answer is either a formula without interventions, with an accepted derivation, that equals P(y | do(x), given) in each positive model of
-- the graph; or a hedge for the joint effect into which the observations turn, with its two models. Where a joint effect is answered, no formula
-- without interventions equals P(y | do(x), given). Where `settled`, the two models of the hedge show it, since they differ on the target too.
abbrev pub IsRight : MixedGraph → PlainTarget → Conditional → Type 0
IsRight g t (answers.Formula f d) = IsRightGiven g t (formula_view f) (derivation_view d)
IsRight g t (answers.Joint x y settled h pair) = IsRightJoint g t x.bits y.bits settled h pair

-- the fact holds of the formula and its derivation, where they are answered
abbrev pub IfFormula : Conditional → (PlainFormula → PlainDerivation → Type 0) → Type 0
IfFormula (answers.Formula f d) P = P (formula_view f) (derivation_view d)
IfFormula (answers.Joint x y settled h pair) P = Unit {0}

-- the fact holds of the joint effect, of whether it is settled, of its hedge and its two models, where they are answered
abbrev pub IfJoint : Conditional → (VSet → VSet → Bool → Hedge → CounterPair → Type 0) → Type 0
IfJoint (answers.Formula f d) P = Unit {0}
IfJoint (answers.Joint x y settled h pair) P = P x y settled h pair

-- a joint effect is answered
abbrev pub is_joint : Conditional → Bool
is_joint (answers.Formula f d) = false
is_joint (answers.Joint x y settled h pair) = true

-- some formula without interventions equals the target
abbrev pub SomeFormula : MixedGraph → PlainTarget → Type 0
SomeFormula g t = (f : PlainFormula) × (is_do_free f ≡ true) × EqualsEffect g t f

-- there is a hedge for the joint effect into which the observations turn
pub record SomeJointHedge (g : MixedGraph) (t : PlainTarget) : Type 0 where
  pub doing : ℕ
  pub left : ℕ
  pub moved : List ℕ
  pub turned : IsTurned g t doing left moved
  pub hedge : Hedge
  pub is_hedge : IsHedge g doing (union t.y left) hedge

-- the joint effect, whether it is settled, the hedge at which its identification stops, with its data, and its two models; and where it isn't
-- settled, a hedge for the observations that are left, and to each of these an open walk that shows that it doesn't turn
pub record IsJointShown (g : MixedGraph) (t : PlainTarget) (x y : VSet) (settled : Bool) (h : Hedge) (pair : CounterPair) : Type 0 where
  pub left : ℕ
  pub moved : List ℕ
  pub turned : IsTurned g t x.bits left moved
  pub joint : y.bits ≡ union t.y left
  pub settled_is : IsTrue settled ↔ IsSettled g x.bits left
  pub unsettled : settled ≡ false → (k : Hedge) × IsHedge g x.bits left k
  pub walks : settled ≡ false → HaveOpenWalks g x.bits t.y left
  pub stop : IsUnidentified g x.bits y.bits h.small.bits h.big.bits
  pub built : IsHedgeOf g h
  pub hedge : IsHedge g x.bits y.bits h
  pub models : IsPairOf g x.bits y.bits h pair

-- what is found: the formula with its derivation, whose definitions are few; or the joint effect that can't be identified
abbrev pub IsAnswerGiven : MixedGraph → PlainTarget → Conditional → Type 0
IsAnswerGiven g t (answers.Formula f d) = IsConditionalBySteps g t (formula_view f) (derivation_view d) × (length (formula_view f).defs ≤ 4096)
IsAnswerGiven g t (answers.Joint x y settled h pair) = IsJointShown g t x y settled h pair × IsRightHedge g x.bits y.bits h pair
