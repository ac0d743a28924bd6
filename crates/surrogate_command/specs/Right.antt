-- Which answers of `surrogate` are right: whether the procedure over experiments finds a formula for the effect of x on y, in the observed graph of a
-- diagram.
use Rattle.std.specs.Prelude.{ℕ, ◌≡◌, ◌↔◌, Bool, true, false, List, Option, Some, None, IsSome, IfSome, Result, Ok, Err}
use Rattle.mixed_graph.specs.declared.sets.VSet.{VSet}
use Rattle.mixed_graph.specs.Vocabulary.{MixedGraph, graph_of}
use Rattle.prob_expr.specs.Vocabulary.{masks_of, PlainFormula, effect_on, target_view, formula_view}
use Rattle.do_derivation.specs.Vocabulary.{PlainDerivation}
use Rattle.hedge.specs.declared.hedge.Hedge.{Hedge}
use Rattle.counter_models.specs.declared.counter_pair.CounterPair.{CounterPair}
use Rattle.identification_theory.specs.Vocabulary.{IsIdentified}
use Rattle.identify.specs.Vocabulary.{IsRightHedge}
use Rattle.certificate.specs.Vocabulary.{hedge_view}
use Rattle.certificate.specs.Plain as certificates
use Rattle.surrogates.specs.declared.answer.CommonHedge.{CommonHedge}
use Rattle.surrogates.specs.Vocabulary.{IsSurrogate, IsSurrogateBySteps, SomeBlocked, IsRightFormulaWith, IsRightBlock, IsStopShown, IsBlockShown, IsBlockedTogether}
use Rattle.targets.specs.declared.fault.TargetFault.{TargetFault}
use Rattle.diagram.specs.declared.diagram.Diagram.{Diagram}
use Rattle.diagram.specs.Vocabulary.{Names}
use Rattle.experiment_lists.specs.Vocabulary.{Lists}
use Rattle.effect_answers.specs.declared.formulas.EffectFormula.{EffectFormula}
use Rattle.effect_answers.specs.Vocabulary.{IsReadBack, HasArrays, IsKept}
use Rattle.surrogate_command.specs.declared.sets.SurrogateSets.{SurrogateSets}
use Rattle.surrogate_command.specs.declared.answer.Answer.{Answer}
use Rattle.surrogate_command.specs.declared.answer.Answer.TheVariants.{Formula, Unfound, Blocked}
use Rattle.surrogate_command.specs.Sets.{SurrogateLists, surrogate_lists, AreSurrogateSets, IsSurrogateFault}

-- ---- answers for sets of the observed graph q, with experiments on the sets zs

-- Each term of the formula is observed or under an experiment, the derivation turns P(y | do(x)) into it, and it equals the effect in each
-- positive model that fits q.
-- It is that of the procedure over experiments, which meets no blocked district, and where observations alone give a formula it is that one. The
-- derivation is kept, and the certificate is read back.
pub record IsFormula (q : MixedGraph) (zs : List ℕ) (x y : ℕ) (a : EffectFormula) : Type 0 where
  pub target : target_view a.target ≡ effect_on x y
  pub derivation : PlainDerivation
  pub right : IsRightFormulaWith q zs x y (formula_view a.formula) derivation
  pub stated : IsSurrogate q zs x y (formula_view a.formula)
  pub derived : IsSurrogateBySteps q zs x y (formula_view a.formula) derivation
  pub unblocked : SomeBlocked q zs x y → ⊥
  pub plain : (f : PlainFormula) → IsIdentified q x y f → formula_view a.formula ≡ f
  pub kept : IsKept true a.derivation derivation
  pub reads_back : IsReadBack q.vertices (certificates.formula (effect_on x y) (formula_view a.formula) derivation)

-- what is shown of a stop: the common hedge, where that is asked for and there is one
abbrev pub stop_shown : (wanted : Bool) → SurrogateSets → VSet → Hedge → Option CommonHedge → Answer
stop_shown wanted s district h None = Unfound s district h
stop_shown false s district h (Some k) = Unfound s district h
stop_shown true s district h (Some k) = Blocked s district (record { sets = record { x = s.x; y = s.y }; hedge = k.hedge; pair = k.pair })

-- The district is the first that no experiment frees. The hedge is that for it without experiment; its two models are positive, fit q, agree on
-- all observations and differ on the effect.
-- Where the district's factor stops under all experiments that leave the district alone at once, and only there, there is a common hedge: its two
-- models agree under each experiment too, so no formula over what is observed and the experiments equals the effect. Its certificate is read back.
pub record IsStop (wanted : Bool) (q : MixedGraph) (s : SurrogateSets) (a : Answer) : Type 0 where
  pub district : VSet
  pub hedge : Hedge
  pub pair : CounterPair
  pub common : Option CommonHedge
  pub right : IsRightHedge q s.x.bits s.y.bits hedge pair
  pub stop : IsStopShown q (masks_of s.experiments.items) s.x.bits s.y.bits district hedge pair
  pub blocked : IfSome common (λ k. IsRightBlock q (masks_of s.experiments.items) s.x.bits s.y.bits k.hedge k.pair)
  pub shown : IfSome common (λ k. IsBlockShown q (masks_of s.experiments.items) s.x.bits s.y.bits district k.hedge k.pair)
  pub arrays : IfSome common (λ k. HasArrays k.hedge)
  pub exact : IsSome common ↔ IsBlockedTogether q (masks_of s.experiments.items) s.x.bits s.y.bits
  pub is : a ≡ stop_shown wanted s district hedge common
  pub reads_back : IfSome common (λ k. IsReadBack q.vertices (certificates.hedge (effect_on s.x.bits s.y.bits) (hedge_view k.hedge)))

-- the answer for the sets
abbrev pub Decides : (wanted : Bool) → MixedGraph → SurrogateSets → Answer → Type 0
Decides wanted q s (Formula u f) = (u ≡ s) × IsFormula q (masks_of s.experiments.items) s.x.bits s.y.bits f
Decides wanted q s (Unfound u district h) = IsStop wanted q s (Unfound u district h)
Decides wanted q s (Blocked u district h) = IsStop wanted q s (Blocked u district h)

-- ---- answers on a diagram

-- the answer for the sets that the lists name
pub record IsForLists (wanted : Bool) (q : MixedGraph) (l : SurrogateLists) (a : Answer) : Type 0 where
  pub sets : SurrogateSets
  pub named : AreSurrogateSets l sets.x.bits sets.y.bits (masks_of sets.experiments.items)
  pub decided : Decides wanted q sets a

-- the answer for lists of names, or the fault of these
abbrev pub IsForNames : (wanted : Bool) → MixedGraph → SurrogateLists → Result Answer TargetFault → Type 0
IsForNames wanted q l (Ok a) = IsForLists wanted q l a
IsForNames wanted q l (Err fault) = IsSurrogateFault l fault

-- the answer on a diagram, in its observed graph, where the common hedge is asked for or isn't
abbrev pub IsSurrogateAnswer : (wanted : Bool) → Diagram → (x y : Names) → (experiments : Lists) → Result Answer TargetFault → Type 0
IsSurrogateAnswer wanted d x y experiments =
    IsForNames wanted (graph_of d.observed.graph) (surrogate_lists d.read d.observed.names x y experiments)
