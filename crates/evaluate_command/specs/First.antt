-- Which answers are right for which no counts are read.
use Rattle.std.specs.Prelude.{Bool, Some, Result, Ok, Err}
use Rattle.mixed_graph.specs.Vocabulary.{MixedGraph, graph_of}
use Rattle.prob_expr.specs.Vocabulary.{target_view}
use Rattle.targets.specs.declared.fault.TargetFault.{TargetFault}
use Rattle.targets.specs.Vocabulary.{EffectLists, AreEffectSets, IsEffectFault, Lists, AreSets, IsListFault}
use Rattle.diagram.specs.declared.diagram.Diagram.{Diagram}
use Rattle.diagram.specs.Vocabulary.{Names, effect_lists, query_lists}
use Rattle.effect_answers.specs.Vocabulary.{IsEffectHedge}
use Rattle.adjust_command.specs.declared.criteria.Verdict.TheVariants.{Breaks}
use Rattle.adjust_command.specs.Vocabulary.{IsAdjustFault, IsVerdict}
use Rattle.identify_command.specs.Vocabulary.{IsJointHedge, AreTargetSets}
use Rattle.evaluate_command.specs.Ways.{Way, by_procedure, by_adjusting, by_condition, criterion_query}
use Rattle.evaluate_command.specs.declared.answer.Answer.{Answer}
use Rattle.evaluate_command.specs.declared.answer.Answer.TheVariants.{Hedge, Joint, NotAdmissible}

-- ---- answers for lists of names, in the observed graph q

-- a hedge for the effect of the sets that the lists name
abbrev pub HasHedge : MixedGraph → EffectLists → Answer → Type 0
HasHedge q l (Hedge h) = AreEffectSets l h.sets.x.bits h.sets.y.bits × IsEffectHedge q h
HasHedge q l a = ⊥

-- a hedge for the joint effect into which the target turns whose sets the lists name
abbrev pub HasJointHedge : MixedGraph → Lists → Answer → Type 0
HasJointHedge q l (Joint t settled h) = AreTargetSets l (target_view t) × IsJointHedge q (target_view t) settled h
HasJointHedge q l a = ⊥

-- the third set that the lists name doesn't meet the criterion: this breaks it
abbrev pub BreaksCriterion : (back_door : Bool) → MixedGraph → Lists → Answer → Type 0
BreaksCriterion back_door q l (NotAdmissible s fault) =
    AreSets l s.x.bits s.y.bits s.given.bits × IsVerdict back_door q s.x.bits s.y.bits s.given.bits (Breaks fault)
BreaksCriterion back_door q l a = ⊥

-- ---- on a diagram, by the way in which a formula is looked for

-- x and y are those that are listed, or else the exposures and the outcomes
abbrev pub IsUnmet : Way → Diagram → (x y : Names) → Answer → Type 0
IsUnmet (by_procedure short) d x y = HasHedge (graph_of d.observed.graph) (effect_lists d.read d.observed.names x y)
IsUnmet (by_adjusting back_door set) d x y =
    BreaksCriterion back_door (graph_of d.observed.graph) (query_lists d.read d.observed.names x y (Some set))
IsUnmet (by_condition short given) d x y = HasJointHedge (graph_of d.observed.graph) (query_lists d.read d.observed.names x y (Some given))

-- a listed name is at fault, or a set is empty that may not be; or else the exposures aren't one vertex, for the back-door criterion
abbrev pub IsFirstFault : Way → Diagram → (x y : Names) → TargetFault → Type 0
IsFirstFault (by_procedure short) d x y = IsEffectFault (effect_lists d.read d.observed.names x y)
IsFirstFault (by_adjusting back_door set) d x y =
    IsAdjustFault (criterion_query back_door set) (query_lists d.read d.observed.names x y (Some set))
IsFirstFault (by_condition short given) d x y = IsListFault (query_lists d.read d.observed.names x y (Some given))

-- the answer, or the fault of the lists
abbrev pub IsForDiagram : Way → Diagram → (x y : Names) → Result Answer TargetFault → Type 0
IsForDiagram way d x y (Ok a) = IsUnmet way d x y a
IsForDiagram way d x y (Err fault) = IsFirstFault way d x y fault
