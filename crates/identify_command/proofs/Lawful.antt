-- The command's words ask for one request, and its right answers end alike.
use Rattle.std.proofs.Common.{◌≡◌, Bool, List, [], ◌∷◌, Some, None, Result, Ok, Err, refl, sym, ap, subst, ◌∙◌}
use Rattle.std.specs.Prelude.{codes}
use Rattle.std.proofs.lemmas.Option.{same_Some}
use Rattle.mixed_graph.specs.Vocabulary.{MixedGraph, graph_of}
use Rattle.prob_expr.specs.Vocabulary.{PlainTarget, formula_view}
use Rattle.command_words.specs.Vocabulary.{Use, value_of}
use Rattle.command_words.proofs.OneValue.{one_listed}
use Rattle.targets.specs.declared.fault.TargetFault.{TargetFault}
use Rattle.targets.specs.declared.fault.TargetFault.TheVariants.{EmptyX}
use Rattle.targets.specs.Vocabulary.{EffectLists, Lists, fault_in, IsFaultOfTarget, IsListFault}
use Rattle.diagram.specs.declared.diagram.Diagram.{Diagram}
use Rattle.diagram.specs.Vocabulary.{Names}
use Rattle.diagram.proofs.OneDiagram.{AreSameDiagrams, same_drawing, same_effect_lists, same_query_lists}
use Rattle.replies.specs.Vocabulary.{IsAnswered}
use Rattle.replies.proofs.Commands.{IsLawful}
use Rattle.replies.proofs.OneGraph.{one_holding}
use Rattle.replies.proofs.OneTarget.{same_two, no_fault_of, no_effect_fault, some_list, is_some_list}
use Rattle.told.proofs.OneSubject.{one_subject}
use Rattle.told.specs.Vocabulary.{is_certified, target_refusal, outcome_in}
use Rattle.told.proofs.ToldOnce.{lawful_told}
use Rattle.identify.specs.Vocabulary.{IsRightHedge}
use Rattle.effect_answers.specs.declared.formulas.EffectFormula.{EffectFormula}
use Rattle.effect_answers.specs.declared.hedges.EffectHedge.{EffectHedge}
use Rattle.identify_command.specs.declared.answer.Answer.{Answer}
use Rattle.identify_command.specs.declared.answer.Answer.TheVariants.{Formula, Hedge, Joint}
use Rattle.identify_command.specs.Requests.{Request, IsRequest, identify_row}
use Rattle.identify_command.specs.Command.{identify_command}
use Rattle.identify_command.specs.Telling.{identify_telling}
use Rattle.identify_command.specs.Right.{IsJointHedge, Asked, an_effect, a_target, asked_of, IsForEffect, IsForTarget}
use Rattle.identify_command.specs.Right.{IsAnswerFor, IsFaultFor, IsForNames, AreTargetSets}
use Rattle.identify_command.specs.Laws.{FormsAgree}
use Rattle.identify_command.proofs.Lists.{one_target}

-- the uses ask for one request
one_request : (uses : List Use) (q r : Request) → IsRequest uses q → IsRequest uses r → r ≡ q
one_request uses q r a b = let s = one_subject identify_row uses q.file r.file q.x q.y r.x r.y a.subject b.subject in λ i. record {
  file = s.0 i;
  x = s.1 i;
  y = s.2 i;
  given = one_listed (value_of uses (codes "given")) q.given r.given a.given b.given i;
  form = same_Some r.form q.form (sym b.form ∙ a.form) i;
}

-- right answers in two forms end alike
module _ (short certified other_short other_certified : Bool) (q : MixedGraph) where
  -- a formula is the effect, and by a hedge there is none
  formula_or_hedge : (l : EffectLists) (f : EffectFormula) (h : EffectHedge) → IsForEffect short certified q l (Formula f)
      → IsForEffect other_short other_certified q l (Hedge h) → ⊥
  formula_or_hedge l f h a b =
      let s = subst (λ s. IsRightHedge q s.x.bits s.y.bits h.hedge h.pair) b.decided.0 b.decided.1.found.right in
      (same_two (λ x y. IsRightHedge q x y h.hedge h.pair) l a.sets.x.bits a.sets.y.bits b.sets.x.bits b.sets.y.bits a.named b.named s).no_formula
      (formula_view f.formula) a.decided.right.do_free a.decided.right.effect

  -- so it is of a target
  formula_or_joint : (l : Lists) (f : EffectFormula) (settled : Bool) (h : EffectHedge) (t : PlainTarget) → IsForTarget short certified q l (Formula f)
      → AreTargetSets l t → IsJointHedge q t settled h → ⊥
  formula_or_joint l f settled h t a named joint =
      (subst (λ (u : PlainTarget). IsJointHedge q u settled h) (one_target l a.target t a.named named) joint).no_formula
      (formula_view f.formula) a.decided.right.do_free a.decided.right.effect

module _ (short certified other_short other_certified : Bool) (q : MixedGraph) where
  effects_alike : (l : EffectLists) (a b : Answer) → IsForEffect short certified q l a → IsForEffect other_short other_certified q l b
      → identify_telling.outcome a ≡ identify_telling.outcome b
  effects_alike l (Formula f) (Formula h) a b = refl
  effects_alike l (Formula f) (Hedge h) a b = absurd (formula_or_hedge short certified other_short other_certified q l f h a b)
  effects_alike l (Hedge h) (Formula f) a b = absurd (formula_or_hedge other_short other_certified short certified q l f h b a)
  effects_alike l (Hedge f) (Hedge h) a b = refl
  effects_alike l (Joint t settled f) h a b = absurd a.decided
  effects_alike l f (Joint t settled h) a b = absurd b.decided

  targets_alike : (l : Lists) (a b : Answer) → IsForTarget short certified q l a → IsForTarget other_short other_certified q l b
      → identify_telling.outcome a ≡ identify_telling.outcome b
  targets_alike l (Formula f) (Formula h) a b = refl
  targets_alike l (Formula f) (Joint t settled h) a b =
      absurd (formula_or_joint short certified other_short other_certified q l f settled h b.target a b.named b.decided.1)
  targets_alike l (Joint t settled h) (Formula f) a b =
      absurd (formula_or_joint other_short other_certified short certified q l f settled h a.target b a.named a.decided.1)
  targets_alike l (Joint t settled f) (Joint u other h) a b = refl
  targets_alike l (Hedge f) h a b = absurd a.decided
  targets_alike l f (Hedge h) a b = absurd b.decided

list_fault_of : (l : Lists) (f : TargetFault) → IsListFault l f → IsFaultOfTarget (fault_in l) l.y some_list f
list_fault_of l EmptyX h = absurd h
list_fault_of l f h = h

-- lists that name what is asked for have no fault
no_fault : (short certified : Bool) (q : MixedGraph) (l : Asked) (a : Answer) (fault : TargetFault) → IsAnswerFor short certified q l a → IsFaultFor l fault → ⊥
no_fault short certified q (an_effect l) a fault h is = no_effect_fault l h.sets.x.bits h.sets.y.bits fault h.named is
no_fault short certified q (a_target l) a fault h is = no_fault_of (fault_in l) l.y some_list fault h.named.no_fault h.named.some_y is_some_list
    (list_fault_of l fault is)

alike : (short certified other_short other_certified : Bool) (q : MixedGraph) (l : Asked) (a b : Result Answer TargetFault)
    → IsForNames short certified q l a → IsForNames other_short other_certified q l b
    → outcome_in identify_telling target_refusal a ≡ outcome_in identify_telling target_refusal b
alike short certified other_short other_certified q (an_effect l) (Ok a) (Ok b) f g =
    effects_alike short certified other_short other_certified q l a b f g
alike short certified other_short other_certified q (a_target l) (Ok a) (Ok b) f g =
    targets_alike short certified other_short other_certified q l a b f g
alike short certified other_short other_certified q l (Ok a) (Err fault) f g = absurd (no_fault short certified q l a fault f g)
alike short certified other_short other_certified q l (Err fault) (Ok a) f g = absurd (no_fault other_short other_certified q l a fault g f)
alike short certified other_short other_certified q l (Err fault) (Err other) f g = refl

answered : (a : Answer) → IsAnswered (identify_telling.outcome a)
answered (Formula f) = tt
answered (Hedge h) = tt
answered (Joint t settled h) = tt

-- diagrams that are the same are asked for the same
pub same_asked : (x y given : Names) (d e : Diagram) → AreSameDiagrams d e → asked_of e x y given ≡ asked_of d x y given
same_asked x y None d e s = ap an_effect (same_effect_lists x y d e s)
same_asked x y (Some []) d e s = ap an_effect (same_effect_lists x y d e s)
same_asked x y (Some (n ∷ ns)) d e s = ap a_target (same_query_lists x y (Some (n ∷ ns)) d e s)

-- answers in two forms end alike
pub forms_agree : FormsAgree
forms_agree bytes x y given o p told other a b =
    let s = one_holding bytes a.diagram b.diagram a.holds b.holds in
    let d = a.diagram in
    let e = b.diagram in
    let f = a.given.3 in
    let g = b.given.3 in
    let there = subst (λ (l : Asked). IsForNames b.given.0 b.given.1 (graph_of d.observed.graph) l g.answer) (same_asked x y given d e s)
    (subst (λ (q : MixedGraph). IsForNames b.given.0 b.given.1 q (asked_of e x y given) g.answer) (sym (same_drawing d e s)) g.right) in
    f.ends ∙ alike a.given.0 a.given.1 b.given.0 b.given.1 (graph_of d.observed.graph) (asked_of d x y given) f.answer g.answer f.right there ∙ sym g.ends

-- what holds of each command holds of it
pub identify_lawful : IsLawful identify_command
identify_lawful = lawful_told identify_telling one_request answered (λ q d. asked_of d q.x q.y q.given) (λ q. same_asked q.x q.y q.given)
    (λ q. IsForNames q.form.short (is_certified q.form.writing))
    (λ q. let certified = is_certified q.form.writing in alike q.form.short certified q.form.short certified)
