-- Right answers to the question for P(y | do(x)) over experiments on the sets zs.
use Rattle.std.specs.Prelude.{ℕ, ◌≡◌, Bool, true, false, List, Option, Some, None, IsSome, IfSome}
use Rattle.mixed_graph.specs.declared.sets.VSet.{VSet}
use Rattle.mixed_graph.specs.Vocabulary.{has, MixedGraph, Apart}
use Rattle.finite_models.specs.Vocabulary.{meaning}
use Rattle.prob_expr.specs.Vocabulary.{HasNoFormulaOver, AgreeUnderAll, is_allowed, PlainFormula, effect_on, EqualsEffect, formula_view}
use Rattle.do_derivation.specs.Accepts.{Accepts}
use Rattle.do_derivation.specs.Vocabulary.{PlainDerivation, derivation_view}
use Rattle.hedge.specs.declared.hedge.Hedge.{Hedge}
use Rattle.hedge.specs.Vocabulary.{IsHedge}
use Rattle.counter_models.specs.declared.counter_pair.CounterPair.{CounterPair}
use Rattle.counter_models.specs.Vocabulary.{IsPairOf}
use Rattle.identify.specs.Vocabulary.{IsRightHedge, IsHedgeOf}
use Rattle.surrogates.specs.Common.{around}
use Rattle.surrogates.specs.Surrogates.{IsSurrogateBySteps, IsStoppedUnder, IsStoppedWith, IsFirstBlockedFor}
use Rattle.surrogates.specs.declared.answer.CommonHedge.{CommonHedge}
use Rattle.surrogates.specs.declared.answer.Surrogate.{Surrogate}
use Rattle.surrogates.specs.declared.answer.Surrogate.TheVariants as answers

-- each term of the formula is observed or under an experiment, the derivation turns P(y | do(x)) into it, and it equals the effect in each positive
-- model of the graph, at each assignment
pub record IsRightFormulaWith (g : MixedGraph) (zs : List ℕ) (x y : ℕ) (f : PlainFormula) (t : PlainDerivation) : Type 0 where
  pub allowed : is_allowed zs f ≡ true
  pub accepted : Accepts g zs (effect_on x y) f t
  pub effect : EqualsEffect g (effect_on x y) f

-- the two models of the hedge agree under each experiment too, so no formula whose terms are observed or under an experiment equals the effect
pub record IsRightBlock (g : MixedGraph) (zs : List ℕ) (x y : ℕ) (h : Hedge) (pair : CounterPair) : Type 0 where
  pub hedge : IsRightHedge g x y h pair
  pub under : AgreeUnderAll zs (meaning g pair.first) (meaning g pair.second)
  pub no_formula : HasNoFormulaOver g zs (effect_on x y)

-- A right answer is a formula of observed terms and terms under the experiments, with an accepted derivation, that equals the effect; or a hedge for
-- the effect with two positive models of the graph
-- that agree on all observations and differ on the effect; and where there is a common hedge, its models agree under each experiment too.
abbrev pub IsRightWith : MixedGraph → List ℕ → (x y : ℕ) → Surrogate → Type 0
IsRightWith g zs x y (answers.Formula f t) = IsRightFormulaWith g zs x y (formula_view f) (derivation_view t)
IsRightWith g zs x y (answers.Stopped district h pair common) = IsRightHedge g x y h pair × IfSome common (λ k. IsRightBlock g zs x y k.hedge k.pair)

-- the fact holds of the formula and its derivation, where they are answered
abbrev pub IfFormula : Surrogate → (PlainFormula → PlainDerivation → Type 0) → Type 0
IfFormula (answers.Formula f t) P = P (formula_view f) (derivation_view t)
IfFormula (answers.Stopped district h pair common) P = Unit {0}

-- the fact holds of the district, the hedge and its two models, where they are answered
abbrev pub IfStopped : Surrogate → (VSet → Hedge → CounterPair → Type 0) → Type 0
IfStopped (answers.Formula f t) P = Unit {0}
IfStopped (answers.Stopped district h pair common) P = P district h pair

-- the fact holds of the district, its common hedge and that one's two models, where there is one
abbrev pub IfCommon : Surrogate → (VSet → Hedge → CounterPair → Type 0) → Type 0
IfCommon (answers.Formula f t) P = Unit {0}
IfCommon (answers.Stopped district h pair common) P = IfSome common (λ k. P district k.hedge k.pair)

-- a district is answered
abbrev pub is_stopped : Surrogate → Bool
is_stopped (answers.Formula f t) = false
is_stopped (answers.Stopped district h pair common) = true

-- it is answered with a common hedge
abbrev pub HasCommon : Surrogate → Type 0
HasCommon (answers.Formula f t) = ⊥
HasCommon (answers.Stopped district h pair common) = IsSome common

-- The district is the one at which the procedure stops, and the first in the graph's order that is blocked. The hedge is that at which its factor
-- stops without experiment, with its data and its models.
pub record IsStopShown (g : MixedGraph) (zs : List ℕ) (x y : ℕ) (district : VSet) (h : Hedge) (pair : CounterPair) : Type 0 where
  pub stop : IsStoppedWith g zs x y district.bits h.big.bits
  pub first : IsFirstBlockedFor g zs x y district.bits
  pub small : h.small ≡ district
  pub built : IsHedgeOf g h
  pub hedge : IsHedge g x y h
  pub models : IsPairOf g x y h pair

-- The district is the first in the graph's order that is blocked. The hedge is that at which its factor stops under all experiments that leave the
-- district alone at once, with its data and its models.
-- It is apart from these experiments.
pub record IsBlockShown (g : MixedGraph) (zs : List ℕ) (x y : ℕ) (district : VSet) (h : Hedge) (pair : CounterPair) : Type 0 where
  pub first : IsFirstBlockedFor g zs x y district.bits
  pub stop : IsStoppedUnder g (around district.bits zs) district.bits h.big.bits
  pub apart : Apart (has h.big.bits) (has (around district.bits zs))
  pub small : h.small ≡ district
  pub built : IsHedgeOf g h
  pub hedge : IsHedge g x y h
  pub models : IsPairOf g x y h pair

-- the factor of the first blocked district stops under all experiments that leave it alone at once
pub record IsBlockedTogether (g : MixedGraph) (zs : List ℕ) (x y : ℕ) : Type 0 where
  pub district : ℕ
  pub first : IsFirstBlockedFor g zs x y district
  pub big : ℕ
  pub stop : IsStoppedUnder g (around district zs) district big

-- the hedge at which the district's factor stops under all experiments that leave the district alone at once; none where it doesn't stop
abbrev pub IsCommonShown : MixedGraph → List ℕ → (x y : ℕ) → VSet → Option CommonHedge → Type 0
IsCommonShown g zs x y district (Some k) = IsBlockShown g zs x y district k.hedge k.pair
IsCommonShown g zs x y district None = (big : ℕ) → IsStoppedUnder g (around district.bits zs) district.bits big → ⊥

-- what the procedure answers: its formula with its derivation; or the district at which it stops
abbrev pub IsAnswerWith : MixedGraph → List ℕ → (x y : ℕ) → Surrogate → Type 0
IsAnswerWith g zs x y (answers.Formula f t) = IsSurrogateBySteps g zs x y (formula_view f) (derivation_view t)
IsAnswerWith g zs x y (answers.Stopped district h pair common) = IsStopShown g zs x y district h pair × IsCommonShown g zs x y district common
