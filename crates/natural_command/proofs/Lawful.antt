-- The command's words ask for one request, and its right answers end alike.
use Rattle.std.proofs.Common.{◌≡◌, ℕ, Bool, true, false, List, Some, Result, Ok, Err, refl, sym, ◌∙◌, subst, arith, inl, inr}
use Rattle.std.specs.Prelude.{codes, ◌⊎◌}
use Rattle.std.proofs.lemmas.Option.{same_Some}
use Rattle.mixed_graph.specs.declared.sets.VSet.{VSet}
use Rattle.mixed_graph.specs.Vocabulary.{MixedGraph, union, graph_of}
use Rattle.hedge.specs.declared.hedge.Hedge.{Hedge}
use Rattle.hedge.specs.Vocabulary.{IsHedge}
use Rattle.command_words.specs.Vocabulary.{Use, value_of}
use Rattle.command_words.proofs.OneValue.{one_listed_or_empty, one_needed_list}
use Rattle.targets.specs.declared.fault.TargetFault.{TargetFault}
use Rattle.diagram.specs.declared.diagram.Diagram.{Diagram}
use Rattle.diagram.specs.Vocabulary.{Names}
use Rattle.diagram.proofs.OneDiagram.{AreSameDiagrams, same_drawing, same_query_lists}
use Rattle.replies.specs.declared.outcome.Outcome.{Outcome}
use Rattle.replies.specs.declared.outcome.Outcome.TheVariants.{Yes, No}
use Rattle.replies.specs.Vocabulary.{IsAnswered}
use Rattle.replies.specs.Told.{Told}
use Rattle.replies.proofs.Commands.{IsLawful, lawful_on_file}
use Rattle.replies.proofs.OneGraph.{one_holding}
use Rattle.replies.proofs.OneOutcome.{one_on_diagram}
use Rattle.replies.proofs.OneTarget.{one_set, no_fault_of}
use Rattle.told.proofs.OneSubject.{one_subject}
use Rattle.told.specs.Vocabulary.{Tells, is_certified, outcome_in}
use Rattle.told.proofs.ToldOnce.{told_answered}
use Rattle.natural_id.specs.Vocabulary.{ReadsBoth}
use Rattle.natural_command.specs.declared.asking.Question.{Question}
use Rattle.natural_command.specs.declared.answer.Answer.{Answer}
use Rattle.natural_command.specs.declared.answer.Answer.TheVariants.{Formula, Certified, Excluded, Witness, Split}
use Rattle.natural_command.specs.declared.fault.NaturalFault.{NaturalFault}
use Rattle.natural_command.specs.declared.fault.NaturalFault.TheVariants.{Listed, NoMediator, After, TooMany, NoMemory}
use Rattle.natural_command.specs.Asking.{NaturalLists, natural_lists, through_fault, AreNamed, IsNamesFault}
use Rattle.natural_command.specs.Faults.{natural_refusal}
use Rattle.natural_command.specs.Laws.{FormsAgree}
use Rattle.natural_command.specs.Right.{Decides, IsForQuestion, IsOfQuestion, IsFaultOfQuestion, IsFault, IsForNames, IsNaturalAnswer}
use Rattle.natural_command.specs.Telling.{natural_telling}
use Rattle.natural_command.specs.Requests.{Request, IsRequest, natural_row}
use Rattle.natural_command.specs.Command.{natural_command}

-- the uses ask for one request
one_request : (uses : List Use) (q r : Request) → IsRequest uses q → IsRequest uses r → r ≡ q
one_request uses q r a b = let s = one_subject natural_row uses q.file r.file q.x q.y r.x r.y a.subject b.subject in λ i. record {
  file = s.0 i;
  x = s.1 i;
  y = s.2 i;
  through = one_needed_list (value_of uses (codes "through")) q.through r.through a.through b.through i;
  given = one_listed_or_empty (value_of uses (codes "given")) q.given r.given a.given b.given i;
  form = same_Some r.form q.form (sym b.form ∙ a.form) i;
}

-- whether something reads both values of a treatment, or the joint effect has a hedge, settles how an answer ends
abbrev IsHindered : MixedGraph → Question → Type 0
IsHindered g q = ReadsBoth g q.x.bits q.through.bits q.y.bits q.given.bits ⊎ ((h : Hedge) × IsHedge g q.x.bits (union q.y.bits q.given.bits) h)

abbrev IsSettled : MixedGraph → Question → Answer → Type 0
IsSettled g q (Formula a f) = IsHindered g q → ⊥
IsSettled g q (Certified a c) = IsHindered g q → ⊥
IsSettled g q (Excluded a h pair) = IsHindered g q
IsSettled g q (Witness a w other) = IsHindered g q
IsSettled g q (Split a s other) = IsHindered g q

neither : {A B : Type 0} → (A → ⊥) → (B → ⊥) → (A ⊎ B) → ⊥
neither a b (inl h) = a h
neither a b (inr h) = b h

settled : (certified : Bool) (g : MixedGraph) (q : Question) (a : Answer) → Decides certified g q a → IsSettled g q a
settled false g q (Formula a f) d = neither d.1.clear (λ h. d.1.no_hedge h.0 h.1)
settled true g q (Formula a f) d = absurd d
settled true g q (Certified a c) d = neither d.1.clear (λ h. d.1.no_hedge h.0 h.1)
settled false g q (Certified a c) d = absurd d
settled certified g q (Excluded a h pair) d = inr d.1.evidence
settled certified g q (Witness a w other) d = inl (inl (w, d.1.witness))
settled certified g q (Split a s other) d = inl (inr (s, d.1.split))

-- a formula and its certificate are the answers that end well
abbrev HasKind : (hindered : Type 0) → Outcome → Type 0
HasKind hindered o = ((hindered → ⊥) × (o ≡ Yes)) ⊎ (hindered × (o ≡ No))

kind : (g : MixedGraph) (q : Question) (a : Answer) → IsSettled g q a → HasKind (IsHindered g q) (natural_telling.outcome a)
kind g q (Formula a f) h = inl (h, refl)
kind g q (Certified a c) h = inl (h, refl)
kind g q (Excluded a k pair) h = inr (h, refl)
kind g q (Witness a w other) h = inr (h, refl)
kind g q (Split a s other) h = inr (h, refl)

same_kinds : {P : Type 0} (o p : Outcome) → HasKind P o → HasKind P p → o ≡ p
same_kinds o p (inl a) (inl b) = a.1 ∙ sym b.1
same_kinds o p (inl a) (inr b) = absurd (a.0 b.0)
same_kinds o p (inr a) (inl b) = absurd (b.0 a.0)
same_kinds o p (inr a) (inr b) = a.1 ∙ sym b.1

vertex_set : (a b : VSet) → b.bits ≡ a.bits → b ≡ a
vertex_set a b e = λ i. record { bits = e i }

module _ (g : MixedGraph) (l : NaturalLists) where
  -- lists ask for one question
  pub one_question : (a b : Question) → AreNamed l a → AreNamed l b → b ≡ a
  one_question a b s t = λ i. record {
    x = vertex_set a.x b.x (one_set l.query.observed l.query.x a.x.bits b.x.bits s.query.set_x t.query.set_x) i;
    through = vertex_set a.through b.through (one_set l.query.observed l.through a.through.bits b.through.bits s.through t.through) i;
    y = vertex_set a.y b.y (one_set l.query.observed l.query.y a.y.bits b.y.bits s.query.set_y t.query.set_y) i;
    given = vertex_set a.given b.given (one_set l.query.observed l.query.given a.given.bits b.given.bits s.query.set_given t.query.set_given) i;
  }

  same_question : (P : Question → Type 0) (f h : IsOfQuestion l P) → P f.question
  same_question P f h = subst P (one_question f.question h.question f.named h.named) h.is

  -- right answers end alike, certified or not
  same_outcome : (certified other : Bool) (a b : Answer) → IsOfQuestion l (λ q. IsForQuestion certified g q a)
      → IsOfQuestion l (λ q. IsForQuestion other g q b) → natural_telling.outcome a ≡ natural_telling.outcome b
  same_outcome certified other a b f h =
      let same = subst (λ q. IsForQuestion other g q b) (one_question f.question h.question f.named h.named) h.is in
      same_kinds (natural_telling.outcome a) (natural_telling.outcome b)
      (kind g f.question a (settled certified g f.question a f.is.decided))
      (kind g f.question b (settled other g f.question b same.decided))

  -- a question that is answered has no fault
  question_no_fault : (certified : Bool) (q : Question) (a : Answer) (fault : NaturalFault) → IsForQuestion certified g q a
      → IsFaultOfQuestion g l.query.observed q fault → ⊥
  question_no_fault certified q a (Listed fault) f h = h
  question_no_fault certified q a NoMediator f h = h
  question_no_fault certified q a (After name) f h = f.before h.vertex h.lowest.member h.lowest.after
  question_no_fault certified q a TooMany f h = let few = f.few in let many = h.many in absurd (omega (arith, few, many))
  question_no_fault certified q a NoMemory f h = h

  -- lists that name a question have no fault of a name
  named_no_fault : (q : Question) (fault : TargetFault) → AreNamed l q → IsNamesFault l fault → ⊥
  named_no_fault q fault s (inl h) = no_fault_of _ l.query.y l.query.x fault s.query.no_fault s.query.some_y s.query.some_x h
  named_no_fault q fault s (inr h) = no_fault_of (through_fault l) l.query.y l.query.x fault s.no_fault s.query.some_y s.query.some_x h.named

  of_question : (certified : Bool) (a : Answer) (fault : NaturalFault) → IsOfQuestion l (λ q. IsForQuestion certified g q a)
      → IsOfQuestion l (λ q. IsFaultOfQuestion g l.query.observed q fault) → ⊥
  of_question certified a fault f h = question_no_fault certified f.question a fault f.is
      (subst (λ q. IsFaultOfQuestion g l.query.observed q fault) (one_question f.question h.question f.named h.named) h.is)

  answered_no_fault : (certified : Bool) (a : Answer) (fault : NaturalFault) → IsOfQuestion l (λ q. IsForQuestion certified g q a) → IsFault g l fault → ⊥
  answered_no_fault certified a (Listed fault) f h = named_no_fault f.question fault f.named h
  answered_no_fault certified a NoMediator f h = f.named.some h.none
  answered_no_fault certified a (After name) f h = of_question certified a (After name) f h
  answered_no_fault certified a TooMany f h = of_question certified a TooMany f h
  answered_no_fault certified a NoMemory f h = of_question certified a NoMemory f h

pub alike : (certified other : Bool) (g : MixedGraph) (l : NaturalLists) (a b : Result Answer NaturalFault) → IsForNames certified g l a → IsForNames other g l b
    → outcome_in natural_telling natural_refusal a ≡ outcome_in natural_telling natural_refusal b
alike certified other g l (Ok a) (Ok b) f h = same_outcome g l certified other a b f h
alike certified other g l (Ok a) (Err fault) f h = absurd (answered_no_fault g l certified a fault f h)
alike certified other g l (Err fault) (Ok b) f h = absurd (answered_no_fault g l other b fault h f)
alike certified other g l (Err fault) (Err second) f h = refl

answered : (a : Answer) → IsAnswered (natural_telling.outcome a)
answered (Formula a f) = tt
answered (Certified a c) = tt
answered (Excluded a h pair) = tt
answered (Witness a w other) = tt
answered (Split a s other) = tt

-- an answer on a diagram is one on each that is the same
pub same_answer : (certified : Bool) (x y : Names) (through given : List (List ℕ)) (d e : Diagram) → AreSameDiagrams d e → (r : Result Answer NaturalFault)
    → IsNaturalAnswer certified e x y through given r → IsNaturalAnswer certified d x y through given r
same_answer certified x y through given d e s r h =
    subst (λ (l : NaturalLists). IsForNames certified (graph_of d.observed.graph) l r) same_lists
    (subst (λ (g : MixedGraph). IsForNames certified g (natural_lists e x y through given) r) (sym (same_drawing d e s)) h)
  where
    same_lists : natural_lists e x y through given ≡ natural_lists d x y through given
    same_lists = λ i. record { query = same_query_lists x y (Some given) d e s i; through = through }

-- so right answers on such diagrams end alike
both_alike : (certified other : Bool) (x y : Names) (through given : List (List ℕ)) (d e : Diagram) → AreSameDiagrams d e
    → (a b : Result Answer NaturalFault) → IsNaturalAnswer certified d x y through given a → IsNaturalAnswer other e x y through given b
    → outcome_in natural_telling natural_refusal a ≡ outcome_in natural_telling natural_refusal b
both_alike certified other x y through given d e s a b f h =
    alike certified other (graph_of d.observed.graph) (natural_lists d x y through given) a b f (same_answer other x y through given d e s b h)

-- answers in two forms end alike
pub forms_agree : FormsAgree
forms_agree bytes x y through given o p told other a b =
    let s = one_holding bytes a.diagram b.diagram a.holds b.holds in
    let f = a.given.2 in
    let h = b.given.2 in
    f.ends ∙ both_alike a.given.0 b.given.0 x y through given a.diagram b.diagram s f.answer h.answer f.right h.right ∙ sym h.ends

-- what holds of each command holds of it
pub natural_lawful : IsLawful natural_command
natural_lawful = lawful_on_file one_request
    (λ q d o told h. told_answered natural_telling natural_refusal answered (λ e. tt) (right q d) q.form d.observed.names o told h)
    (λ q bytes. one_on_diagram bytes (λ d. Tells natural_telling natural_refusal (right q d) q.form d.observed.names) (once q))
  where
    right : Request → Diagram → Result Answer NaturalFault → Type 0
    right q d = IsNaturalAnswer (is_certified q.form.writing) d q.x q.y q.through q.given

    once : (q : Request) (d e : Diagram) → AreSameDiagrams d e → (o p : Outcome) (told other : Told)
        → Tells natural_telling natural_refusal (right q d) q.form d.observed.names o told
        → Tells natural_telling natural_refusal (right q e) q.form e.observed.names p other → o ≡ p
    once q d e s o p told other a b =
        let certified = is_certified q.form.writing in
        a.ends ∙ both_alike certified certified q.x q.y q.through q.given d e s a.answer b.answer a.right b.right ∙ sym b.ends
