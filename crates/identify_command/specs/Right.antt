-- Which answers of `identify` are right: whether P(y | do(x), given) can be computed from observations, in the observed graph of a diagram.
use Rattle.std.specs.Prelude.{ℕ, ◌≡◌, ◌↔◌, Bool, true, IsTrue, [], ◌∷◌, Some, None, Result, Ok, Err}
use Rattle.mixed_graph.specs.Vocabulary.{MixedGraph, graph_of}
use Rattle.finite_models.specs.Vocabulary.{meaning}
use Rattle.prob_expr.specs.Vocabulary.{DifferOnTarget, HasNoFormula, PlainTarget, effect_on, target_view, formula_view}
use Rattle.do_derivation.specs.Vocabulary.{PlainDerivation}
use Rattle.identification_theory.specs.Vocabulary.{IsDerived}
use Rattle.identify.specs.Vocabulary.{IsRightFormula}
use Rattle.conditional_id.specs.Vocabulary.{IsConditionalBySteps, IsRightGiven, IsSettled, AreModelsOf, IsJointEffect}
use Rattle.short_formulas.specs.Vocabulary.{IsOrShorter}
use Rattle.certificate.specs.Plain as plain
use Rattle.targets.specs.declared.fault.TargetFault.{TargetFault}
use Rattle.targets.specs.declared.query.EffectSets.{EffectSets}
use Rattle.targets.specs.Vocabulary.{EffectLists, AreEffectSets, IsEffectFault, Lists, AreListedSets, IsListFault}
use Rattle.diagram.specs.declared.diagram.Diagram.{Diagram}
use Rattle.diagram.specs.Vocabulary.{Names, effect_lists, query_lists}
use Rattle.effect_answers.specs.declared.formulas.EffectFormula.{EffectFormula}
use Rattle.effect_answers.specs.declared.hedges.EffectHedge.{EffectHedge}
use Rattle.effect_answers.specs.Vocabulary.{IsReadBack, IsKept, IsEffectHedge}
use Rattle.identify_command.specs.declared.answer.Answer.{Answer}
use Rattle.identify_command.specs.declared.answer.Answer.TheVariants.{Formula, Hedge, Joint}

-- ---- answers for sets of the observed graph q, where a short formula and where the certificate is asked for

-- The formula is accepted by the check of formulas, has no intervention, equals P(y | do(x)) in each positive model that fits q, and names
-- ancestors of y alone; the derivation turns the effect into it.
-- Both are those of the identification procedure, or where a short formula is asked for, the formula is no longer than that one. Where the
-- certificate is asked for, the derivation is kept, and the certificate is read back.
pub record IsEffectFormula (short certified : Bool) (q : MixedGraph) (x y : ℕ) (a : EffectFormula) : Type 0 where
  pub target : target_view a.target ≡ effect_on x y
  pub derivation : PlainDerivation
  pub right : IsRightFormula q x y (formula_view a.formula) derivation
  pub derived : IsOrShorter short (IsDerived q x y) (formula_view a.formula) derivation
  pub kept : IsKept certified a.derivation derivation
  pub reads_back : certified ≡ true → IsReadBack q.vertices (plain.formula (effect_on x y) (formula_view a.formula) derivation)

-- The same of P(y | do(x), given), by the procedure for conditional effects (Shpitser and Pearl 2006); the formula names ancestors of y and given.
pub record IsTargetFormula (short certified : Bool) (q : MixedGraph) (t : PlainTarget) (a : EffectFormula) : Type 0 where
  pub target : target_view a.target ≡ t
  pub derivation : PlainDerivation
  pub right : IsRightGiven q t (formula_view a.formula) derivation
  pub derived : IsOrShorter short (IsConditionalBySteps q t) (formula_view a.formula) derivation
  pub kept : IsKept certified a.derivation derivation
  pub reads_back : certified ≡ true → IsReadBack q.vertices (plain.formula t (formula_view a.formula) derivation)

-- Observations turn the target into an effect of x on the target's y and what is left, which is equal to it in each positive model that fits q.
-- For the joint effect of both there is a hedge, with two models that show that there is no formula for it.
-- The target itself isn't identifiable: two positive models that fit q and agree on all observations give it two values at some assignment, so no formula
-- without interventions equals it in each such model. Where no observation is left, or those that are left have an effect that is known, it is settled by the
-- very models of the hedge, which differ on the target too.
pub record IsJointHedge (q : MixedGraph) (t : PlainTarget) (settled : Bool) (a : EffectHedge) : Type 0 where
  pub joint : IsJointEffect q t a.sets.x.bits a.sets.y.bits
  pub models : AreModelsOf q t
  pub no_formula : HasNoFormula q t
  pub settled_is : IsTrue settled ↔ IsSettled q a.sets.x.bits joint.left
  pub differs : IsTrue settled → DifferOnTarget (meaning q a.pair.first) (meaning q a.pair.second) t
  pub hedge : IsEffectHedge q a

-- the answer for the effect of x on y
abbrev pub DecidesEffect : (short certified : Bool) → MixedGraph → EffectSets → Answer → Type 0
DecidesEffect short certified q s (Formula f) = IsEffectFormula short certified q s.x.bits s.y.bits f
DecidesEffect short certified q s (Hedge h) = (h.sets ≡ s) × IsEffectHedge q h
DecidesEffect short certified q s (Joint u settled h) = ⊥

-- the answer for a target
abbrev pub DecidesTarget : (short certified : Bool) → MixedGraph → PlainTarget → Answer → Type 0
DecidesTarget short certified q t (Formula f) = IsTargetFormula short certified q t f
DecidesTarget short certified q t (Hedge h) = ⊥
DecidesTarget short certified q t (Joint u settled h) = (target_view u ≡ t) × IsJointHedge q t settled h

-- ---- answers on a diagram

-- the answer for the sets that the lists of an effect name
pub record IsForEffect (short certified : Bool) (q : MixedGraph) (l : EffectLists) (a : Answer) : Type 0 where
  pub sets : EffectSets
  pub named : AreEffectSets l sets.x.bits sets.y.bits
  pub decided : DecidesEffect short certified q sets a

-- the sets of a target: no name is at fault, and y isn't empty
abbrev pub AreTargetSets : Lists → PlainTarget → Type 0
AreTargetSets l t = AreListedSets l t.x t.y t.given

-- the answer for the target whose sets the lists name
pub record IsForTarget (short certified : Bool) (q : MixedGraph) (l : Lists) (a : Answer) : Type 0 where
  pub target : PlainTarget
  pub named : AreTargetSets l target
  pub decided : DecidesTarget short certified q target a

-- what the lists ask for: an effect, or where names are given a target
pub data Asked : Type 0 where
  an_effect : EffectLists → Asked
  a_target : Lists → Asked

-- x and y are those that are listed, or else the exposures and the outcomes
abbrev pub asked_of : Diagram → (x y given : Names) → Asked
asked_of d x y None = an_effect (effect_lists d.read d.observed.names x y)
asked_of d x y (Some []) = an_effect (effect_lists d.read d.observed.names x y)
asked_of d x y (Some (n ∷ ns)) = a_target (query_lists d.read d.observed.names x y (Some (n ∷ ns)))

-- the answer for what is asked for
abbrev pub IsAnswerFor : (short certified : Bool) → MixedGraph → Asked → Answer → Type 0
IsAnswerFor short certified q (an_effect l) a = IsForEffect short certified q l a
IsAnswerFor short certified q (a_target l) a = IsForTarget short certified q l a

-- a listed name is at fault, or y is empty
abbrev pub IsFaultFor : Asked → TargetFault → Type 0
IsFaultFor (an_effect l) fault = IsEffectFault l fault
IsFaultFor (a_target l) fault = IsListFault l fault

-- the answer, or the fault of the lists
abbrev pub IsForNames : (short certified : Bool) → MixedGraph → Asked → Result Answer TargetFault → Type 0
IsForNames short certified q l (Ok a) = IsAnswerFor short certified q l a
IsForNames short certified q l (Err fault) = IsFaultFor l fault

-- the answer on a diagram, in its observed graph
abbrev pub IsIdentifyAnswer : (short certified : Bool) → Diagram → (x y given : Names) → Result Answer TargetFault → Type 0
IsIdentifyAnswer short certified d x y given = IsForNames short certified (graph_of d.observed.graph) (asked_of d x y given)
