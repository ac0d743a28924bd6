-- Right answers end alike: an effect without a formula, refused lists, values, a cell without one and refused counts exclude each other.
use Rattle.std.proofs.Common.{◌≡◌, ◌<◌, ℕ, Bool, true, false, List, Option, Some, Result, Ok, Err, length, inl, inr, refl, sym, ◌∙◌, subst, arith}
use Rattle.std.proofs.lemmas.Option.{none-some}
use Rattle.std.specs.Borrow.{Bor}
use Rattle.mixed_graph.specs.Vocabulary.{MixedGraph, one, graph_of}
use Rattle.targets.specs.declared.fault.TargetFault.{TargetFault}
use Rattle.targets.specs.declared.fault.TargetFault.TheVariants.{EmptyX, NotOneX}
use Rattle.targets.specs.declared.query.Sets.{Sets}
use Rattle.targets.specs.Vocabulary.{EffectLists, IsEffectFault, Lists, AreSets, fault_in, IsFaultOfTarget, IsListFault}
use Rattle.prob_expr.specs.declared.expr.Target.{Target}
use Rattle.prob_expr.specs.Vocabulary.{PlainTarget, target_view}
use Rattle.identify.specs.Vocabulary.{IsRightFormula, IsRightHedge}
use Rattle.conditional_id.specs.Vocabulary.{IsRightGiven}
use Rattle.quantity.specs.Exacts.{exact}
use Rattle.quantity.specs.Intervals.{bounds}
use Rattle.count_rows.specs.declared.fault.CountFault.{CountFault}
use Rattle.count_rows.specs.Vocabulary.{Field, Table}
use Rattle.count_eval.specs.Rules.{Rule, rule}
use Rattle.count_eval.specs.Stops.{Stop}
use Rattle.count_eval.specs.declared.failure.EvalFault.{EvalFault}
use Rattle.count_answers.specs.Vocabulary.{HoldsCounts}
use Rattle.diagram.specs.declared.diagram.Diagram.{Diagram}
use Rattle.diagram.specs.Vocabulary.{Names, effect_lists, query_lists}
use Rattle.diagram.proofs.OneDiagram.{AreSameDiagrams, same_drawing, same_effect_lists, same_query_lists}
use Rattle.replies.specs.declared.outcome.Outcome.TheVariants.{Yes, No}
use Rattle.replies.proofs.OneTarget.{one_set, same_two, same_three, no_fault_of, no_effect_fault, some_list, is_some_list}
use Rattle.told.specs.Vocabulary.{target_refusal, outcome_in}
use Rattle.effect_answers.specs.declared.hedges.EffectHedge.{EffectHedge}
use Rattle.adjust_command.specs.declared.criteria.Verdict.TheVariants.{Meets, Breaks}
use Rattle.adjust_command.specs.Vocabulary.{IsNotDecided, IsAdjustFault, IsVerdict}
use Rattle.adjust_command.proofs.Exclusive.{verdict_once}
use Rattle.adjustment.specs.declared.criteria.AdjFault.{AdjFault}
use Rattle.identify_command.specs.Vocabulary.{IsJointHedge}
use Rattle.identify_command.proofs.Lists.{one_target}
use Rattle.evaluate_command.specs.Cells.{CellValue, printed_cells, value_in, values_at}
use Rattle.evaluate_command.specs.Effects.{PlainEffect, target_of, Identifies, used_in}
use Rattle.evaluate_command.specs.Telling.{evaluate_telling}
use Rattle.evaluate_command.specs.First.{HasHedge, HasJointHedge, BreaksCriterion, IsUnmet, IsFirstFault, IsForDiagram}
use Rattle.evaluate_command.specs.Right.{IsOverTable, HasNoValue, HasValues, LackValues, AreNoCounts, IsCountsFault, IsForCounts}
use Rattle.evaluate_command.specs.ValuesFaults.{values_refusal}
use Rattle.evaluate_command.specs.Ways.{Way, by_procedure, by_adjusting, by_condition, criterion_query}
use Rattle.evaluate_command.specs.declared.answer.Answer.{Answer}
use Rattle.evaluate_command.specs.declared.answer.Answer.TheVariants as answers
use Rattle.evaluate_command.specs.declared.answer.Values.{Values}
use Rattle.evaluate_command.specs.declared.answer.Values.TheVariants.{Exact, Bounds}
use Rattle.evaluate_command.specs.declared.faults.ValuesFault.{ValuesFault}
use Rattle.evaluate_command.specs.declared.faults.ValuesFault.TheVariants.{TooLong, Counts, NoValue, NoMemory}
use Rattle.evaluate_command.proofs.OneEffect.{same_identified, same_values}

-- ---- lists that name sets have no fault

list_fault_of : (l : Lists) (f : TargetFault) → IsListFault l f → IsFaultOfTarget (fault_in l) l.y some_list f
list_fault_of l EmptyX h = absurd h
list_fault_of l f h = h

-- the exposures are one vertex where they are judged by the back-door criterion
abbrev HasExposure : (back_door : Bool) → ℕ → Type 0
HasExposure true x = (v : ℕ) × (x ≡ one v)
HasExposure false x = Unit {0}

breaks_exposure : (back_door : Bool) (q : MixedGraph) (x y z : ℕ) (fault : AdjFault) → IsVerdict back_door q x y z (Breaks fault) → HasExposure back_door x
breaks_exposure true q x y z fault h = (h.0, h.1)
breaks_exposure false q x y z fault h = tt

meets_exposure : (back_door : Bool) (q : MixedGraph) (x y z : ℕ) → IsVerdict back_door q x y z Meets → HasExposure back_door x
meets_exposure true q x y z h = (h.0, h.1)
meets_exposure false q x y z h = tt

one_exposure : (back_door : Bool) (set : List (List ℕ)) (s : Sets) (f : TargetFault) → HasExposure back_door s.x.bits
    → IsNotDecided (criterion_query back_door set) s f → ⊥
one_exposure true set s NotOneX (v, e) n = n v e
one_exposure true set s f (v, e) n = n
one_exposure false set s f h n = n

adjusting_fault : (back_door : Bool) (set : List (List ℕ)) (l : Lists) (x y z : ℕ) (f : TargetFault) → AreSets l x y z → HasExposure back_door x
    → IsAdjustFault (criterion_query back_door set) l f → ⊥
adjusting_fault back_door set l x y z f s h (inl is) = no_fault_of (fault_in l) l.y l.x f s.no_fault s.some_y s.some_x is
adjusting_fault back_door set l x y z f s h (inr n) = one_exposure back_door set n.sets f
    (subst (HasExposure back_door) (one_set l.observed l.x n.sets.x.bits x n.named.set_x s.set_x) h) n.refused

-- ---- before the counts

module _ (d : Diagram) (x y : Names) where
  no_fault : (way : Way) (a : Answer) (f : TargetFault) → IsUnmet way d x y a → IsFirstFault way d x y f → ⊥
  no_fault (by_procedure short) (answers.Hedge h) f r is =
      no_effect_fault (effect_lists d.read d.observed.names x y) h.sets.x.bits h.sets.y.bits f r.0 is
  no_fault (by_procedure short) a f r is = r
  no_fault (by_adjusting back_door set) (answers.NotAdmissible s fault) f r is =
      adjusting_fault back_door set (query_lists d.read d.observed.names x y (Some set)) s.x.bits s.y.bits s.given.bits f r.0
      (breaks_exposure back_door (graph_of d.observed.graph) s.x.bits s.y.bits s.given.bits fault r.1) is
  no_fault (by_adjusting back_door set) a f r is = r
  no_fault (by_condition short given) (answers.Joint t settled h) f r is =
      let l = query_lists d.read d.observed.names x y (Some given) in
      no_fault_of (fault_in l) l.y some_list f r.0.no_fault r.0.some_y is_some_list (list_fault_of l f is)
  no_fault (by_condition short given) a f r is = r

  -- an answer for which no counts are read is a no
  is_no : (way : Way) (a : Answer) → IsUnmet way d x y a → evaluate_telling.outcome a ≡ No
  is_no way (answers.Hedge h) r = refl
  is_no way (answers.Joint t settled h) r = refl
  is_no way (answers.NotAdmissible s fault) r = refl
  is_no (by_procedure short) (answers.Values a) r = absurd r
  is_no (by_adjusting back_door set) (answers.Values a) r = absurd r
  is_no (by_condition short given) (answers.Values a) r = absurd r

  alike_on : (way : Way) (a b : Result Answer TargetFault) → IsForDiagram way d x y a → IsForDiagram way d x y b
      → outcome_in evaluate_telling target_refusal a ≡ outcome_in evaluate_telling target_refusal b
  alike_on way (Ok a) (Ok b) f g = is_no way a f ∙ sym (is_no way b g)
  alike_on way (Ok a) (Err fault) f g = absurd (no_fault way a fault f g)
  alike_on way (Err fault) (Ok a) f g = absurd (no_fault way a fault g f)
  alike_on way (Err fault) (Err other) f g = refl

-- on diagrams that are the same
module _ (d e : Diagram) (s : AreSameDiagrams d e) (x y : Names) where
  same_first : (way : Way) (a : Result Answer TargetFault) → IsForDiagram way e x y a → IsForDiagram way d x y a
  same_first (by_procedure short) (Ok a) h = subst (λ (l : EffectLists). HasHedge (graph_of d.observed.graph) l a) (same_effect_lists x y d e s)
      (subst (λ (q : MixedGraph). HasHedge q (effect_lists e.read e.observed.names x y) a) (sym (same_drawing d e s)) h)
  same_first (by_procedure short) (Err f) h = subst (λ (l : EffectLists). IsEffectFault l f) (same_effect_lists x y d e s) h
  same_first (by_adjusting back_door set) (Ok a) h =
      subst (λ (l : Lists). BreaksCriterion back_door (graph_of d.observed.graph) l a) (same_query_lists x y (Some set) d e s)
      (subst (λ (q : MixedGraph). BreaksCriterion back_door q (query_lists e.read e.observed.names x y (Some set)) a) (sym (same_drawing d e s)) h)
  same_first (by_adjusting back_door set) (Err f) h =
      subst (λ (l : Lists). IsAdjustFault (criterion_query back_door set) l f) (same_query_lists x y (Some set) d e s) h
  same_first (by_condition short given) (Ok a) h =
      subst (λ (l : Lists). HasJointHedge (graph_of d.observed.graph) l a) (same_query_lists x y (Some given) d e s)
      (subst (λ (q : MixedGraph). HasJointHedge q (query_lists e.read e.observed.names x y (Some given)) a) (sym (same_drawing d e s)) h)
  same_first (by_condition short given) (Err f) h = subst (λ (l : Lists). IsListFault l f) (same_query_lists x y (Some given) d e s) h

  pub first_alike : (way : Way) (a b : Result Answer TargetFault) → IsForDiagram way d x y a → IsForDiagram way e x y b
      → outcome_in evaluate_telling target_refusal a ≡ outcome_in evaluate_telling target_refusal b
  first_alike way a b f g = alike_on d x y way a b f (same_first way b g)

-- where the file alone is answered, no effect is identified
module _ (d : Diagram) (x y : Names) (e : PlainEffect) where
  hedge_or_formula : (short : Bool) (h : EffectHedge) → IsUnmet (by_procedure short) d x y (answers.Hedge h) → Identifies (by_procedure short) d x y e → ⊥
  hedge_or_formula short h r i =
      let q = graph_of d.observed.graph in
      let by = i.found.1 in
      let right = subst (λ (g : MixedGraph). IsRightFormula g e.x e.y e.formula by.derivation) i.graph by.right in
      (same_two (λ u v. IsRightHedge q u v h.hedge h.pair) (effect_lists d.read d.observed.names x y) e.x e.y h.sets.x.bits h.sets.y.bits i.found.0 r.0
      r.1.found.right).no_formula e.formula right.do_free right.effect

  joint_or_formula : (short : Bool) (given : List (List ℕ)) (t : Target) (settled : Bool) (h : EffectHedge)
      → IsUnmet (by_condition short given) d x y (answers.Joint t settled h) → Identifies (by_condition short given) d x y e → ⊥
  joint_or_formula short given t settled h r i =
      let q = graph_of d.observed.graph in
      let by = i.found.1 in
      let right = subst (λ (g : MixedGraph). IsRightGiven g (target_of e) e.formula by.derivation) i.graph by.right in
      (subst (λ (u : PlainTarget). IsJointHedge q u settled h)
      (one_target (query_lists d.read d.observed.names x y (Some given)) (target_of e) (target_view t) i.found.0 r.0) r.1).no_formula
      e.formula right.do_free right.effect

  broken_or_met : (back_door : Bool) (set : List (List ℕ)) (s : Sets) (fault : AdjFault)
      → IsUnmet (by_adjusting back_door set) d x y (answers.NotAdmissible s fault) → Identifies (by_adjusting back_door set) d x y e → ⊥
  broken_or_met back_door set s fault r i =
      let q = graph_of d.observed.graph in
      let by = i.found in
      let meets = subst (λ (g : MixedGraph). IsVerdict back_door g e.x e.y by.0 Meets) i.graph by.2.meets in
      verdict_once q back_door e.x e.y by.0 fault meets
      (same_three (λ u v w. IsVerdict back_door q u v w (Breaks fault)) (query_lists d.read d.observed.names x y (Some set)) e.x e.y by.0
      s.x.bits s.y.bits s.given.bits by.1 r.0 r.1)

  alone_on : (way : Way) (a : Result Answer TargetFault) → IsForDiagram way d x y a → Identifies way d x y e → ⊥
  alone_on (by_procedure short) (Ok (answers.Hedge h)) r i = hedge_or_formula short h r i
  alone_on (by_procedure short) (Ok a) r i = r
  alone_on (by_procedure short) (Err f) r i = no_effect_fault (effect_lists d.read d.observed.names x y) e.x e.y f i.found.0 r
  alone_on (by_adjusting back_door set) (Ok (answers.NotAdmissible s fault)) r i = broken_or_met back_door set s fault r i
  alone_on (by_adjusting back_door set) (Ok a) r i = r
  alone_on (by_adjusting back_door set) (Err f) r i =
      adjusting_fault back_door set (query_lists d.read d.observed.names x y (Some set)) e.x e.y i.found.0 f i.found.1
      (meets_exposure back_door e.graph e.x e.y i.found.0 i.found.2.meets) r
  alone_on (by_condition short given) (Ok (answers.Joint t settled h)) r i = joint_or_formula short given t settled h r i
  alone_on (by_condition short given) (Ok a) r i = r
  alone_on (by_condition short given) (Err f) r i =
      let l = query_lists d.read d.observed.names x y (Some given) in
      no_fault_of (fault_in l) l.y some_list f i.found.0.no_fault i.found.0.some_y is_some_list (list_fault_of l f r)

pub first_alone : (way : Way) (d e : Diagram) → AreSameDiagrams d e → (x y : Names) (a : Result Answer TargetFault) (f : PlainEffect)
    → IsForDiagram way d x y a → Identifies way e x y f → ⊥
first_alone way d e s x y a f r i = alone_on d x y f way a r (same_identified d e s x y f way i)

-- ---- over the bytes of counts

-- the rule in exact fractions, or else in bounds
abbrev rule_in : (is_exact zero : Bool) → Rule
rule_in true zero = rule exact zero
rule_in false zero = rule bounds zero

evaluated : (is_exact zero : Bool) (e : PlainEffect) (t : Table) (values : Values) → IsOverTable is_exact zero e t values
    → (list : List CellValue) × (values_at (value_in (rule_in is_exact zero) e t) (printed_cells e t) ≡ Ok list)
evaluated true zero e t (Exact values) h = (h.values.values, h.values.evaluated)
evaluated false zero e t (Bounds values) h = (h.values.values, h.values.evaluated)
evaluated true zero e t (Bounds values) h = absurd h
evaluated false zero e t (Exact values) h = absurd h

stopped : (is_exact zero : Bool) (e : PlainEffect) (t : Table) (fault : EvalFault) → HasNoValue is_exact zero e t fault
    → (s : Stop) × (values_at (value_in (rule_in is_exact zero) e t) (printed_cells e t) ≡ Err s)
stopped true zero e t fault h = (h.0, h.1)
stopped false zero e t fault h = (h.0, h.1)

module _ (is_exact zero matched : Bool) (e : PlainEffect) (count : Option Field) (bytes : List ℕ) where
  is_yes : (a : Answer) → HasValues is_exact zero matched e count bytes a → evaluate_telling.outcome a ≡ Yes
  is_yes (answers.Values a) h = refl
  is_yes (answers.Hedge k) h = absurd h.answer
  is_yes (answers.Joint t settled k) h = absurd h.answer
  is_yes (answers.NotAdmissible s fault) h = absurd h.answer

  all_or_stop : (a : Answer) (names : Bor (List (List ℕ))) (u : Table) (fault : EvalFault) → HasValues is_exact zero matched e count bytes a
      → LackValues is_exact zero e count bytes (NoValue names u fault) → ⊥
  all_or_stop (answers.Values a) names u fault h k =
      let x = evaluated is_exact zero e h.table a.values h.answer.values in
      let y = stopped is_exact zero e k.table fault k.over.value in
      let clash : ◌≡◌ {A = Result (List CellValue) Stop} (Ok x.0) (Err y.0) =
      sym x.1 ∙ sym (same_values (rule_in is_exact zero) e bytes count h.table k.table h.holds.reads k.holds.reads) ∙ y.1 in cc clash
  all_or_stop (answers.Hedge k) names u fault h l = h.answer
  all_or_stop (answers.Joint t settled k) names u fault h l = h.answer
  all_or_stop (answers.NotAdmissible s broken) names u fault h l = h.answer

  -- counts that are read are neither too long nor at fault
  read_or_long : (t : Table) → HoldsCounts e.names (used_in e) count bytes t → 67108864 < length bytes → ⊥
  read_or_long t h long = let small = h.small in omega (arith, small, long)

  read_or_fault : (t : Table) (fault : CountFault) → HoldsCounts e.names (used_in e) count bytes t → AreNoCounts e count bytes fault → ⊥
  read_or_fault t fault h f = none-some fault (sym h.fits ∙ f.found)

  values_or_fault : (a : Answer) (fault : ValuesFault) → HasValues is_exact zero matched e count bytes a → IsCountsFault is_exact zero e count bytes fault → ⊥
  values_or_fault a TooLong h f = read_or_long h.table h.holds f
  values_or_fault a (Counts fault) h f = read_or_fault h.table fault h.holds f
  values_or_fault a (NoValue names t fault) h f = all_or_stop a names t fault h f
  values_or_fault a NoMemory h f = f

  faults_alike : (f g : ValuesFault) → IsCountsFault is_exact zero e count bytes f → IsCountsFault is_exact zero e count bytes g
      → values_refusal.outcome f ≡ values_refusal.outcome g
  faults_alike TooLong TooLong x y = refl
  faults_alike TooLong (Counts fault) x y = refl
  faults_alike TooLong (NoValue names t fault) x y = absurd (read_or_long y.table y.holds x)
  faults_alike (Counts fault) TooLong x y = refl
  faults_alike (Counts fault) (Counts other) x y = refl
  faults_alike (Counts fault) (NoValue names t other) x y = absurd (read_or_fault y.table fault y.holds x)
  faults_alike (NoValue names t fault) TooLong x y = absurd (read_or_long x.table x.holds y)
  faults_alike (NoValue names t fault) (Counts other) x y = absurd (read_or_fault x.table other x.holds y)
  faults_alike (NoValue names t fault) (NoValue others u other) x y = refl
  faults_alike NoMemory g x y = absurd x
  faults_alike f NoMemory x y = absurd y

  pub counts_alike : (a b : Result Answer ValuesFault) → IsForCounts is_exact zero matched e count bytes a → IsForCounts is_exact zero matched e count bytes b
      → outcome_in evaluate_telling values_refusal a ≡ outcome_in evaluate_telling values_refusal b
  counts_alike (Ok a) (Ok b) f g = is_yes a f ∙ sym (is_yes b g)
  counts_alike (Ok a) (Err fault) f g = absurd (values_or_fault a fault f g)
  counts_alike (Err fault) (Ok b) f g = absurd (values_or_fault b fault g f)
  counts_alike (Err fault) (Err other) f g = faults_alike fault other f g
