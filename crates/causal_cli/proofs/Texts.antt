-- That the text of an answer is fixed.
use Rattle.std.proofs.Common.{◌≡◌, ◌≢◌, ◌≤◌, ℕ, Bool, true, false, List, [], ◌∷◌, ◌++◌, ◌&&◌, nat_lt, map, Some, Result, Ok, Err, codes, refl, sym, ap, ap₂, ◌∙◌}
use Rattle.std.proofs.Common.{subst, arith}
use mathlib.Core.Path.{fun_ext}
use Rattle.std.proofs.lemmas.Bool.{false≢true}
use Rattle.mixed_graph.specs.Vocabulary.{has, MixedGraph, graph_of}
use Rattle.dag_reader.specs.declared.graph.ReadGraph.{ReadGraph}
use Rattle.dag_reader.specs.Vocabulary.{AreSame, count_up, pairs_below, role_at, drawn_of}
use Rattle.dag_reader.specs.Written.{written}
use Rattle.do_rules.specs.declared.rules.Rule.{Rule}
use Rattle.do_rules.proofs.RuleGraphs.{one_graph}
use Rattle.prob_expr.specs.Vocabulary.{PlainTarget, target_view}
use Rattle.targets.specs.declared.fault.TargetFault.{TargetFault}
use Rattle.targets.specs.declared.query.Sets.{Sets}
use Rattle.targets.specs.declared.query.RuleSets.{RuleSets}
use Rattle.targets.specs.Vocabulary.{Lists, EffectLists, RuleLists, AreSets, AreRuleSets, IsEffectFault, IsListFault}
use Rattle.replies.specs.declared.format.Format.{Format}
use Rattle.replies.specs.declared.outcome.Outcome.{Outcome}
use Rattle.replies.specs.declared.outcome.Outcome.TheVariants.{Yes, No}
use Rattle.replies.specs.Vocabulary.{text_in, answer_of, code_of, IsAnswerOn, target_told}
use Rattle.replies.specs.Told.{Told}
use Rattle.json.specs.Json.{string}
use Rattle.answer_json.specs.Vocabulary.{array_of, object_of, json_line, text_json, vertex_json, pairs_json}
use Rattle.graph_json.specs.Vocabulary.{graph_json}
use Rattle.diagram.specs.declared.diagram.Diagram.{Diagram}
use Rattle.diagram.specs.Vocabulary.{Names, effect_lists, query_lists, rule_lists}
use Rattle.diagram.proofs.OneDiagram.{AreSameDiagrams, same_drawing, same_effect_lists, same_query_lists, same_rule_lists}
use Rattle.replies.proofs.OneGraph.{one_holding}
use Rattle.replies.proofs.OneTarget.{one_set}
use Rattle.told.specs.declared.form.Form.{Form}
use Rattle.told.specs.Vocabulary.{is_certified, plain_form, target_refusal, Refusal, Tells, outcome_in, told_in}
use Rattle.told.proofs.OneTold.{one_told as told_once}
use Rattle.told.specs.Telling.{Telling}
use Rattle.effect_answers.specs.Vocabulary.{joint_text, joint_object}
use Rattle.effect_answers.proofs.OneNo.{one_hedge_text, one_joint_text, one_hedge_object, one_joint_object}
use Rattle.separation_commands.specs.Vocabulary.{graph_command, role_json, graph_members, IsGraphAnswer, shown_of, graph_telling, separate_command, separate_telling, rule_command, rule_telling}
use Rattle.separation_commands.specs.declared.graph.answer.Answer.{Answer as GraphAnswer}
use Rattle.separation_commands.specs.SeparateRight as separate_right
use Rattle.separation_commands.specs.declared.separate.answer.Answer.{Answer as SeparateAnswer}
use Rattle.separation_commands.specs.declared.separate.answer.Answer.TheVariants as separated
use Rattle.separation_commands.specs.RuleRight as rule_right
use Rattle.separation_commands.specs.Vocabulary.{rule_sentence, asked_members}
use Rattle.separation_commands.specs.declared.rule.answer.Answer.{Answer as RuleAnswer}
use Rattle.separation_commands.specs.declared.rule.answer.Answer.TheVariants as ruled
use Rattle.identify_command.specs.declared.form.Form.{Form as IdentifyForm}
use Rattle.identify_command.specs.declared.answer.Answer.{Answer as IdentifyAnswer}
use Rattle.identify_command.specs.Vocabulary.{identify_command, told_form, Asked, an_effect, a_target, asked_of, IsForNames, IsFaultFor, IsJointHedge, identify_telling}
use Rattle.identify_command.specs.declared.answer.Answer.TheVariants as identified
use Rattle.identify_command.proofs.Lawful.{same_asked}
use Rattle.identify_command.proofs.Lists.{one_target}
use Rattle.identify_command.proofs.OneText.{one_identification, one_settled, joint_sets, one_sets as one_effect_sets}
use Rattle.surrogate_command.specs.declared.answer.Answer.{Answer as SurrogateAnswer}
use Rattle.surrogate_command.specs.declared.form.Form.{Form as SurrogateForm}
use Rattle.surrogate_command.specs.Vocabulary.{wants_common, told_form as surrogate_form, IsForNames as IsForExperiments, SurrogateLists, surrogate_lists, surrogate_telling, surrogate_command}
use Rattle.surrogate_command.specs.declared.answer.Answer.TheVariants as surrogated
use Rattle.surrogate_command.proofs.Exclusive.{same_surrogate_lists}
use Rattle.surrogate_command.proofs.OneText.{one_over_experiments}
use Rattle.survey_command.proofs.OneText.{one_survey_text}
use Rattle.implications_command.specs.Vocabulary.{implications_command}
use Rattle.implications_command.proofs.OneText.{one_listing, IsMeasured, one_measuring}
use Rattle.evaluate_command.specs.declared.answer.Answer.{Answer as EvaluateAnswer}
use Rattle.evaluate_command.specs.Vocabulary.{evaluate_command, HasHedge, HasJointHedge, IsForDiagram, evaluate_telling, by_procedure, by_adjusting, by_condition}
use Rattle.evaluate_command.specs.declared.answer.Answer.TheVariants as evaluated
use Rattle.evaluate_command.specs.Ways.{Way}
use Rattle.evaluate_command.proofs.OneText.{one_evaluation}
use Rattle.causal_cli.specs.Texts.{IsOneText, adjusts, TextsAreOne}
use Rattle.causal_cli.proofs.OneFault.{one_target_fault, one_rule_fault, one_list_fault, one_effect_fault, one_surrogate_fault}

-- an answer that has one text on diagrams that are the same has one on the bytes of a file
on_bytes : (bytes : List ℕ) (answer : Diagram → Outcome → Told → Type 0) (o : Outcome)
    → ((d e : Diagram) → AreSameDiagrams d e → (text line : Told) → answer d o text → answer e o line → line ≡ text) → IsOneText (IsAnswerOn bytes answer o)
on_bytes bytes answer o once text line a b = once a.diagram b.diagram (one_holding bytes a.diagram b.diagram a.holds b.holds) text line a.given b.given

-- an answer for lists in the observed graph that has one text there has one on diagrams that are the same
of_diagrams : {L : Type 0} (lists : Diagram → L) (answer : MixedGraph → L → Told → Type 0)
    → ((d e : Diagram) → AreSameDiagrams d e → lists e ≡ lists d)
    → ((d : Diagram) → IsOneText (answer (graph_of d.observed.graph) (lists d))) → (d e : Diagram) → AreSameDiagrams d e → (text line : Told)
    → answer (graph_of d.observed.graph) (lists d) text → answer (graph_of e.observed.graph) (lists e) line → line ≡ text
of_diagrams {L} lists answer same once d e s text line a b =
    once d text line a
    (subst (λ (l : L). answer (graph_of d.observed.graph) l line) (same d e s)
    (subst (λ (q : MixedGraph). answer q (lists e) line) (sym (same_drawing d e s)) b))

-- and where it has one text in any graph
for_diagrams : {L : Type 0} (lists : Diagram → L) (answer : MixedGraph → L → Told → Type 0)
    → ((d e : Diagram) → AreSameDiagrams d e → lists e ≡ lists d)
    → ((q : MixedGraph) (l : L) → IsOneText (answer q l)) → (d e : Diagram) → AreSameDiagrams d e → (text line : Told)
    → answer (graph_of d.observed.graph) (lists d) text → answer (graph_of e.observed.graph) (lists e) line → line ≡ text
for_diagrams lists answer same once = of_diagrams lists answer same (λ d. once (graph_of d.observed.graph) (lists d))

-- ---- values

-- right answers with one outcome, of which one thing is told, have one text
module _ {A : Type 0} (t : Telling A) (form : Form) (names : List (List ℕ)) (small : (a : A) → code_of (t.outcome a) ≤ 1) (o : Outcome) where
  one_told : (right : Result A TargetFault → Type 0)
      → ((a b : A) → right (Ok a) → right (Ok b) → t.outcome a ≡ o → t.outcome b ≡ t.outcome a
      → told_in t target_refusal form names (Ok b) ≡ told_in t target_refusal form names (Ok a))
      → ((e f : TargetFault) → right (Err e) → right (Err f) → f ≡ e) → IsOneText (Tells t target_refusal right form names o)
  one_told right answers faults told other x y =
      told_once t target_refusal (record { answered = small; refused = λ e. omega arith }) form names names
      (λ r. right r × (o ≡ outcome_in t target_refusal r)) (λ r. right r × (o ≡ outcome_in t target_refusal r))
      (λ a b f g ends. answers a b f.0 g.0 (sym f.1) ends) (λ e f g h. ap target_told (faults e f g.0 h.0))
      o told other (with_end told x) (with_end other y)
    where
      with_end : (line : Told) → Tells t target_refusal right form names o line
          → Tells t target_refusal (λ r. right r × (o ≡ outcome_in t target_refusal r)) form names o line
      with_end line h = record { answer = h.answer; right = (h.right, h.ends); ends = h.ends; prints = h.prints }

-- ---- separate

-- the lists name three sets
one_sets : (l : Lists) (s t : Sets) → AreSets l s.x.bits s.y.bits s.given.bits → AreSets l t.x.bits t.y.bits t.given.bits → t ≡ s
one_sets l s t a b = λ i. record {
  x = record { bits = one_set l.observed l.x s.x.bits t.x.bits a.set_x b.set_x i };
  y = record { bits = one_set l.observed l.y s.y.bits t.y.bits a.set_y b.set_y i };
  given = record { bits = one_set l.observed l.given s.given.bits t.given.bits a.set_given b.set_given i };
}

separate_small : (a : SeparateAnswer) → code_of (separate_telling.outcome a) ≤ 1
separate_small (separated.Separated s) = omega arith
separate_small (separated.Connected s path) = omega arith

separations_once : (form : Form) (o : Outcome) → o ≢ No → (q : MixedGraph) (l : Lists) (a b : SeparateAnswer) → separate_right.IsForLists q l a
    → separate_right.IsForLists q l b → separate_telling.outcome a ≡ o → separate_telling.outcome b ≡ separate_telling.outcome a
    → told_in separate_telling target_refusal form l.observed (Ok b) ≡ told_in separate_telling target_refusal form l.observed (Ok a)
separations_once form o told q l (separated.Separated s) (separated.Separated t) f g p e =
    ap (λ (k : Sets). told_in separate_telling target_refusal form l.observed (Ok (separated.Separated k)))
    (g.decided.0 ∙ one_sets l f.sets g.sets f.named g.named ∙ sym f.decided.0)
separations_once form o told q l (separated.Connected s path) b f g p e = absurd (told (sym p))
separations_once form o told q l (separated.Separated s) (separated.Connected t path) f g p e = let c : 1 ≡ 0 = ap code_of e in absurd (omega (arith, c))

separated_once : (format : Format) (o : Outcome) → o ≢ No → (q : MixedGraph) (l : Lists)
    → IsOneText (Tells separate_telling target_refusal (separate_right.IsForNames q l) (plain_form format) l.observed o)
separated_once format o told q l = one_told separate_telling (plain_form format) l.observed separate_small o (separate_right.IsForNames q l)
    (separations_once (plain_form format) o told q l) (one_target_fault l)

-- ---- rule

one_rule_sets : (l : RuleLists) (s t : RuleSets) → AreRuleSets l s.y.bits s.x.bits s.z.bits s.given.bits → AreRuleSets l t.y.bits t.x.bits t.z.bits t.given.bits
    → t ≡ s
one_rule_sets l s t a b = λ i. record {
  y = record { bits = one_set l.observed l.y s.y.bits t.y.bits a.set_y b.set_y i };
  x = record { bits = one_set l.observed l.x s.x.bits t.x.bits a.set_x b.set_x i };
  z = record { bits = one_set l.observed l.z s.z.bits t.z.bits a.set_z b.set_z i };
  given = record { bits = one_set l.observed l.given s.given.bits t.given.bits a.set_given b.set_given i };
}

rule_small : (a : RuleAnswer) → code_of (rule_telling.outcome a) ≤ 1
rule_small (ruled.Holds r s cut) = omega arith
rule_small (ruled.Fails r s cut path) = omega arith

-- what is told of a rule that holds, with these edges in its graph
abbrev held_told : Form → List (List ℕ) → Rule → RuleSets → MixedGraph → Told
held_told form names r s cut = answer_of (text_in form.format (rule_sentence (codes " holds: ") names r s)
    (json_line (object_of (asked_members (codes "holds") names r s ++ (codes "graph", graph_json names cut) ∷ []))))

rules_once : (form : Form) (o : Outcome) → o ≢ No → (r : Rule) (q : MixedGraph) (l : RuleLists) (a b : RuleAnswer) → rule_right.IsForLists r q l a
    → rule_right.IsForLists r q l b → rule_telling.outcome a ≡ o → rule_telling.outcome b ≡ rule_telling.outcome a
    → told_in rule_telling target_refusal form l.observed (Ok b) ≡ told_in rule_telling target_refusal form l.observed (Ok a)
rules_once form o told r q l (ruled.Holds c s h) (ruled.Holds d t k) f g p e =
    let same = one_rule_sets l f.sets g.sets f.named g.named in
    let cuts = one_graph r q (has f.sets.x.bits) (has f.sets.z.bits) (has f.sets.given.bits) (graph_of k) (graph_of h)
    (subst (λ (u : RuleSets). rule_right.IsCut r q u k) same g.decided.2) f.decided.2 in
    ap (λ (u : Rule). held_told form l.observed u t (graph_of k)) (g.decided.0.0 ∙ sym f.decided.0.0)
    ∙ ap (λ (u : RuleSets). held_told form l.observed c u (graph_of k)) (g.decided.0.1 ∙ same ∙ sym f.decided.0.1)
    ∙ ap (held_told form l.observed c s) cuts
rules_once form o told r q l (ruled.Fails c s h path) b f g p e = absurd (told (sym p))
rules_once form o told r q l (ruled.Holds c s h) (ruled.Fails d t k path) f g p e = let n : 1 ≡ 0 = ap code_of e in absurd (omega (arith, n))

ruled_once : (format : Format) (o : Outcome) → o ≢ No → (r : Rule) (q : MixedGraph) (l : RuleLists)
    → IsOneText (Tells rule_telling target_refusal (rule_right.IsForNames r q l) (plain_form format) l.observed o)
ruled_once format o told r q l = one_told rule_telling (plain_form format) l.observed rule_small o (rule_right.IsForNames r q l)
    (rules_once (plain_form format) o told r q l) (one_rule_fault l)

-- ---- identify

identify_small : (a : IdentifyAnswer) → code_of (identify_telling.outcome a) ≤ 1
identify_small (identified.Formula f) = omega arith
identify_small (identified.Hedge h) = omega arith
identify_small (identified.Joint t settled h) = omega arith

one_asked_fault : (l : Asked) (e f : TargetFault) → IsFaultFor l e → IsFaultFor l f → f ≡ e
one_asked_fault (an_effect l) = one_effect_fault l
one_asked_fault (a_target l) = one_list_fault l

identified_once : (form : IdentifyForm) (o : Outcome) → (o ≡ Yes → form.short ≡ false) → (d : Diagram) (l : Asked)
    → IsOneText (Tells identify_telling target_refusal (IsForNames form.short (is_certified form.writing) (graph_of d.observed.graph) l) (told_form form)
    d.observed.names o)
identified_once form o plain d l = one_told identify_telling (told_form form) d.observed.names identify_small o
    (IsForNames form.short (is_certified form.writing) (graph_of d.observed.graph) l)
    (λ a b f g p e. one_identification form d.observed.names (graph_of d.observed.graph) d.observed.graph.valid d.observed.graph.small l a b f g (sym e)
    (λ yes. plain (sym p ∙ yes)))
    (one_asked_fault l)

-- ---- graph

-- graphs that are the same are written alike
same_drawn : (g h : ReadGraph) → AreSame g h → drawn_of h ≡ drawn_of g
same_drawn g h s =
    let arrows : (graph_of h.graph).arrow ≡ (graph_of g.graph).arrow = fun_ext (λ a. fun_ext (λ b. s.arrows a b)) in
    let doubles : (graph_of h.graph).both ≡ (graph_of g.graph).both = fun_ext (λ a. fun_ext (λ b. s.spouses a b)) in
    let roles : role_at h ≡ role_at g = fun_ext (λ v. rw (s.exposures, s.outcomes, s.adjusted, s.latent) refl) in
    λ i. record {
      names = s.names i;
      roles = map (roles i) (count_up (s.vertices i));
      arrows = pairs_below (s.vertices i) (arrows i);
      doubles = pairs_below (s.vertices i) (λ a b. doubles i a b && nat_lt a b);
    }

-- and have one object
same_json : (g h : ReadGraph) → AreSame g h → object_of (graph_members h) ≡ object_of (graph_members g)
same_json g h s =
    let drawn : drawn_of h ≡ drawn_of g = same_drawn g h s in
    let roles : role_at h ≡ role_at g = fun_ext (λ v. rw (s.exposures, s.outcomes, s.adjusted, s.latent) refl) in
    λ i. object_of ((codes "answer", string (codes "graph"))
    ∷ (
      codes "vertices",
      array_of (map (λ v. object_of ((codes "name", vertex_json (s.names i) v) ∷ (codes "role", role_json (roles i v)) ∷ []))
          (count_up (s.vertices i))),
    ) ∷ (codes "directed", pairs_json (s.names i) (drawn i).arrows)
    ∷ (codes "bidirected", pairs_json (s.names i) (drawn i).doubles) ∷ (codes "text", text_json (written (drawn i))) ∷ [])

-- what is told of a graph
abbrev graph_told : Format → ReadGraph → Told
graph_told format g = answer_of (text_in format (written (drawn_of g)) (json_line (object_of (graph_members g))))

same_told : (format : Format) (g h : ReadGraph) → AreSame g h → graph_told format h ≡ graph_told format g
same_told format g h s = λ i. answer_of (text_in format (written (same_drawn g h s i)) (json_line (same_json g h s i)))

-- so one thing is told of them
graph_once : (format : Format) (project : Bool) (o : Outcome) (d e : Diagram) → AreSameDiagrams d e → (told other : Told)
    → graph_command.by_diagram (record { file = []; project = project; format = format }) d o told
    → graph_command.by_diagram (record { file = []; project = project; format = format }) e o other → other ≡ told
graph_once format project o d e s told other x y = y.prints ∙ go x.answer y.answer x.right y.right ∙ sym x.prints
  where
    same : (project : Bool) → AreSame (shown_of project d) (shown_of project e)
    same false = s.read
    same true = s.observed

    go : (a b : Result GraphAnswer TargetFault) → IsGraphAnswer project d a → IsGraphAnswer project e b
        → told_in graph_telling target_refusal (plain_form format) e.observed.names b ≡ told_in graph_telling target_refusal (plain_form format) d.observed.names a
    go (Ok a) (Ok b) f g =
        ap (λ (r : ReadGraph). graph_told format r) g ∙ same_told format (shown_of project d) (shown_of project e) (same project)
        ∙ sym (ap (λ (r : ReadGraph). graph_told format r) f)
    go (Err fault) b f g = absurd f
    go (Ok a) (Err fault) f g = absurd g

-- ---- surrogate

surrogate_small : (a : SurrogateAnswer) → code_of (surrogate_telling.outcome a) ≤ 1
surrogate_small (surrogated.Formula s f) = omega arith
surrogate_small (surrogated.Unfound s district h) = omega arith
surrogate_small (surrogated.Blocked s district h) = omega arith

surrogated_once : (form : SurrogateForm) (o : Outcome) (d : Diagram) (l : SurrogateLists)
    → IsOneText (Tells surrogate_telling target_refusal (IsForExperiments (wants_common form.writing) (graph_of d.observed.graph) l) (surrogate_form form)
    d.observed.names o)
surrogated_once form o d l = one_told surrogate_telling (surrogate_form form) d.observed.names surrogate_small o
    (IsForExperiments (wants_common form.writing) (graph_of d.observed.graph) l)
    (λ a b f g p ends. one_over_experiments form d.observed.names (graph_of d.observed.graph) d.observed.graph.valid d.observed.graph.small l a b f g ends)
    (one_surrogate_fault l)

-- ---- evaluate, before the counts

-- what is right by one test and so by another
tells_by : {A F : Type 0} (t : Telling A) (f : Refusal F) (P Q : Result A F → Type 0) (form : Form) (names : List (List ℕ)) (o : Outcome) (told : Told)
    → ((r : Result A F) → P r → Q r) → Tells t f P form names o told → Tells t f Q form names o told
tells_by t f P Q form names o told by h = record { answer = h.answer; right = by h.answer h.right; ends = h.ends; prints = h.prints }

evaluate_small : (a : EvaluateAnswer) → code_of (evaluate_telling.outcome a) ≤ 1
evaluate_small (evaluated.Values a) = omega arith
evaluate_small (evaluated.Hedge h) = omega arith
evaluate_small (evaluated.Joint t settled h) = omega arith
evaluate_small (evaluated.NotAdmissible s fault) = omega arith

-- by the procedure
abbrev IsHedgeFor : MixedGraph → EffectLists → Result EvaluateAnswer TargetFault → Type 0
IsHedgeFor q l (Ok a) = HasHedge q l a
IsHedgeFor q l (Err fault) = IsEffectFault l fault

hedges_once : (form : Form) (d : Diagram) (names : List (List ℕ)) (l : EffectLists) (a b : EvaluateAnswer) → HasHedge (graph_of d.observed.graph) l a
    → HasHedge (graph_of d.observed.graph) l b
    → told_in evaluate_telling target_refusal form names (Ok b) ≡ told_in evaluate_telling target_refusal form names (Ok a)
hedges_once form d names l (evaluated.Hedge h) (evaluated.Hedge k) f g =
    let q = graph_of d.observed.graph in
    let same : k.sets ≡ h.sets = one_effect_sets l h.sets k.sets f.0 g.0 in
    let text = one_hedge_text q d.observed.graph.valid d.observed.graph.small names h k same f.1 g.1 form.writing in
    let object = one_hedge_object q d.observed.graph.valid d.observed.graph.small names h k same f.1 g.1 form.writing in
    λ i. answer_of (text_in form.format (text i) (json_line (object_of (object i))))
hedges_once form d names l (evaluated.Values v) b f g = absurd f
hedges_once form d names l (evaluated.Joint t settled h) b f g = absurd f
hedges_once form d names l (evaluated.NotAdmissible s fault) b f g = absurd f
hedges_once form d names l (evaluated.Hedge h) (evaluated.Values v) f g = absurd g
hedges_once form d names l (evaluated.Hedge h) (evaluated.Joint t settled k) f g = absurd g
hedges_once form d names l (evaluated.Hedge h) (evaluated.NotAdmissible s fault) f g = absurd g

-- under a condition
abbrev IsJointFor : MixedGraph → Lists → Result EvaluateAnswer TargetFault → Type 0
IsJointFor q l (Ok a) = HasJointHedge q l a
IsJointFor q l (Err fault) = IsListFault l fault

joints_once : (form : Form) (d : Diagram) (names : List (List ℕ)) (l : Lists) (a b : EvaluateAnswer) → HasJointHedge (graph_of d.observed.graph) l a
    → HasJointHedge (graph_of d.observed.graph) l b
    → told_in evaluate_telling target_refusal form names (Ok b) ≡ told_in evaluate_telling target_refusal form names (Ok a)
joints_once form d names l (evaluated.Joint u settled h) (evaluated.Joint v other k) f g =
    let q = graph_of d.observed.graph in
    let vs : target_view v ≡ target_view u = one_target l (target_view u) (target_view v) f.0 g.0 in
    let joint = subst (λ (t : PlainTarget). IsJointHedge q t other k) vs g.1 in
    let same = joint_sets q (target_view u) h k f.1.joint joint.joint in
    let text = ap (λ (t : PlainTarget). joint_text form.writing names t k) vs
    ∙ one_joint_text q d.observed.graph.valid d.observed.graph.small names h k same f.1.hedge joint.hedge form.writing (target_view u) in
    let object = ap₂ (λ (t : PlainTarget) (is : Bool). joint_object form.writing names t is k) vs
    (one_settled q (target_view u) settled other h k f.1 joint)
    ∙ one_joint_object q d.observed.graph.valid d.observed.graph.small names h k same f.1.hedge joint.hedge form.writing (target_view u) settled in
    λ i. answer_of (text_in form.format (text i) (json_line (object_of (object i))))
joints_once form d names l (evaluated.Values v) b f g = absurd f
joints_once form d names l (evaluated.Hedge h) b f g = absurd f
joints_once form d names l (evaluated.NotAdmissible s fault) b f g = absurd f
joints_once form d names l (evaluated.Joint t settled h) (evaluated.Values v) f g = absurd g
joints_once form d names l (evaluated.Joint t settled h) (evaluated.Hedge k) f g = absurd g
joints_once form d names l (evaluated.Joint t settled h) (evaluated.NotAdmissible s fault) f g = absurd g

hedge_for : (short : Bool) (d : Diagram) (x y : Names) (r : Result EvaluateAnswer TargetFault) → IsForDiagram (by_procedure short) d x y r
    → IsHedgeFor (graph_of d.observed.graph) (effect_lists d.read d.observed.names x y) r
hedge_for short d x y (Ok a) h = h
hedge_for short d x y (Err fault) h = h

joint_for : (short : Bool) (given : List (List ℕ)) (d : Diagram) (x y : Names) (r : Result EvaluateAnswer TargetFault)
    → IsForDiagram (by_condition short given) d x y r → IsJointFor (graph_of d.observed.graph) (query_lists d.read d.observed.names x y (Some given)) r
joint_for short given d x y (Ok a) h = h
joint_for short given d x y (Err fault) h = h

alone_once : (form : Form) (way : Way) → adjusts way ≡ false → (o : Outcome) (x y : Names) (d e : Diagram) → AreSameDiagrams d e → (text line : Told)
    → Tells evaluate_telling target_refusal (IsForDiagram way d x y) form d.observed.names o text
    → Tells evaluate_telling target_refusal (IsForDiagram way e x y) form e.observed.names o line → line ≡ text
alone_once form (by_procedure short) other o x y d e s text line a b =
    of_diagrams (λ d. effect_lists d.read d.observed.names x y)
    (λ q l. Tells evaluate_telling target_refusal (IsHedgeFor q l) form l.observed o) (same_effect_lists x y)
    (λ d. let l = effect_lists d.read d.observed.names x y in one_told evaluate_telling form l.observed evaluate_small o
    (IsHedgeFor (graph_of d.observed.graph) l) (λ a b f g p e. hedges_once form d l.observed l a b f g) (one_effect_fault l))
    d e s text line
    (tells_by evaluate_telling target_refusal (IsForDiagram (by_procedure short) d x y) (IsHedgeFor (graph_of d.observed.graph)
    (effect_lists d.read d.observed.names x y)) form d.observed.names o text (hedge_for short d x y) a)
    (tells_by evaluate_telling target_refusal (IsForDiagram (by_procedure short) e x y) (IsHedgeFor (graph_of e.observed.graph)
    (effect_lists e.read e.observed.names x y)) form e.observed.names o line (hedge_for short e x y) b)
alone_once form (by_adjusting back_door set) other o x y d e s text line a b = absurd (false≢true (sym other))
alone_once form (by_condition short given) other o x y d e s text line a b =
    of_diagrams (λ d. query_lists d.read d.observed.names x y (Some given))
    (λ q l. Tells evaluate_telling target_refusal (IsJointFor q l) form l.observed o) (same_query_lists x y (Some given))
    (λ d. let l = query_lists d.read d.observed.names x y (Some given) in one_told evaluate_telling form l.observed evaluate_small o
    (IsJointFor (graph_of d.observed.graph) l) (λ a b f g p e. joints_once form d l.observed l a b f g) (one_list_fault l))
    d e s text line
    (tells_by evaluate_telling target_refusal (IsForDiagram (by_condition short given) d x y) (IsJointFor (graph_of d.observed.graph)
    (query_lists d.read d.observed.names x y (Some given))) form d.observed.names o text (joint_for short given d x y) a)
    (tells_by evaluate_telling target_refusal (IsForDiagram (by_condition short given) e x y) (IsJointFor (graph_of e.observed.graph)
    (query_lists e.read e.observed.names x y (Some given))) form e.observed.names o line (joint_for short given e x y) b)

-- ---- all of them

pub texts_are_one : TextsAreOne
texts_are_one = record {
  survey = one_survey_text;
  graph = λ q o bytes. on_bytes bytes (λ d. graph_command.by_diagram q d) o (λ d e s text line a b. graph_once q.format q.project o d e s text line a b);
  separate = λ q o told bytes. on_bytes bytes (λ d. separate_command.by_diagram q d) o (λ d e s text line a b.
      for_diagrams (λ d. query_lists d.read d.observed.names q.x q.y q.given)
      (λ p l. Tells separate_telling target_refusal (separate_right.IsForNames p l) (plain_form q.format) l.observed o)
      (same_query_lists q.x q.y q.given) (separated_once q.format o told) d e s text line a b);
  rule = λ q o told bytes. on_bytes bytes (λ d. rule_command.by_diagram q d) o (λ d e s text line a b.
      for_diagrams (λ d. rule_lists d.read d.observed.names q.y q.x q.z q.given)
      (λ p l. Tells rule_telling target_refusal (rule_right.IsForNames q.rule p l) (plain_form q.format) l.observed o)
      (same_rule_lists q.y q.x q.z q.given) (ruled_once q.format o told q.rule) d e s text line a b);
  identify = λ q o told bytes. on_bytes bytes (λ d. identify_command.by_diagram q d) o (λ d e s text line a b.
      of_diagrams {L = Asked × List (List ℕ)} (λ d. (asked_of d q.x q.y q.given, d.observed.names))
      (λ p l. Tells identify_telling target_refusal (IsForNames q.form.short (is_certified q.form.writing) p l.0) (told_form q.form) l.1 o)
      (λ d e s. λ i. (same_asked q.x q.y q.given d e s i, s.observed.names i))
      (λ d. identified_once q.form o told d (asked_of d q.x q.y q.given)) d e s text line a b);
  surrogate = λ q o bytes. on_bytes bytes (λ d. surrogate_command.by_diagram q d) o (λ d e s text line a b.
      of_diagrams {L = SurrogateLists × List (List ℕ)} (λ d. (surrogate_lists d.read d.observed.names q.x q.y q.experiments, d.observed.names))
      (λ p l. Tells surrogate_telling target_refusal (IsForExperiments (wants_common q.form.writing) p l.0) (surrogate_form q.form) l.1 o)
      (λ d e s. λ i. (same_surrogate_lists q.x q.y q.experiments d e s i, s.observed.names i))
      (λ d. surrogated_once q.form o d (surrogate_lists d.read d.observed.names q.x q.y q.experiments)) d e s text line a b);
  implications = λ q o bytes. on_bytes bytes (λ d. implications_command.by_diagram q d) o (λ d e s.
      one_listing q.format d.observed e.observed (sym (same_drawing d e s)) s.observed.names q.counts o);
  implications_over_counts = λ q o bytes other. on_bytes bytes (λ d. implications_command.by_both q d other) o (λ d e s text line a b.
      for_diagrams (λ d. d.observed.names) (λ p names. IsMeasured q.format q.count other o p names) (λ d e s. s.observed.names)
      (one_measuring q.format q.count other o) d e s text line a b);
  evaluate_before_counts = λ q other o bytes. on_bytes bytes (λ d. evaluate_command.by_diagram q d) o (alone_once (plain_form q.format) q.way other o q.x q.y);
  evaluate_over_counts = λ q fixed o bytes other. on_bytes bytes (λ d. evaluate_command.by_both q d other) o
      (one_evaluation q.format q.exact q.zero q.matched q.way fixed q.x q.y q.count other o);
}
