-- The command's words ask for one request, and its right answers end alike.
use Rattle.std.proofs.Common.{◌≡◌, ◌⊎◌, inl, inr, ℕ, Bool, true, false, List, Some, Result, Ok, Err, refl, sym, ◌∙◌, subst, arith}
use Rattle.std.specs.Prelude.{codes}
use Rattle.std.proofs.lemmas.Option.{same_Some}
use Rattle.mixed_graph.specs.Vocabulary.{MixedGraph, graph_of}
use Rattle.command_words.specs.Vocabulary.{Use, value_of}
use Rattle.command_words.proofs.OneValue.{one_listed_or_empty}
use Rattle.targets.specs.declared.query.Sets.{Sets}
use Rattle.targets.specs.declared.fault.TargetFault.{TargetFault}
use Rattle.targets.specs.Vocabulary.{Lists, AreListedSets, IsListFault, IsFaultOfTarget, fault_in}
use Rattle.targets.specs.declared.fault.TargetFault.TheVariants as listed
use Rattle.diagram.specs.declared.diagram.Diagram.{Diagram}
use Rattle.diagram.specs.Vocabulary.{Names, query_lists}
use Rattle.diagram.proofs.OneDiagram.{AreSameDiagrams, same_drawing, same_query_lists}
use Rattle.replies.specs.declared.outcome.Outcome.{Outcome}
use Rattle.replies.specs.declared.outcome.Outcome.TheVariants.{Yes, No}
use Rattle.replies.specs.Vocabulary.{IsAnswered}
use Rattle.replies.specs.Told.{Told}
use Rattle.replies.proofs.Commands.{IsLawful, lawful_on_file}
use Rattle.replies.proofs.OneOutcome.{one_on_diagram}
use Rattle.replies.proofs.OneTarget.{one_set, no_fault_of, some_list, is_some_list}
use Rattle.told.specs.declared.form.Form.{Form}
use Rattle.told.specs.Vocabulary.{Tells, is_certified, outcome_in}
use Rattle.told.proofs.OneSubject.{one_subject}
use Rattle.told.proofs.ToldOnce.{told_answered}
use Rattle.treated_id.specs.Vocabulary.{IsConfounded}
use Rattle.treated_command.specs.declared.answer.Answer.{Answer}
use Rattle.treated_command.specs.declared.answer.Answer.TheVariants.{Formula, Certified, Excluded, Unfixed}
use Rattle.treated_command.specs.declared.fault.TreatedFault.{TreatedFault}
use Rattle.treated_command.specs.declared.fault.TreatedFault.TheVariants.{Listed, After, TooMany, NoMemory}
use Rattle.treated_command.specs.Faults.{treated_refusal}
use Rattle.treated_command.specs.Laws.{FormsAgree}
use Rattle.treated_command.specs.Right.{Decides, IsForSets, IsOfSets, IsFaultOfSets, IsFault, IsForNames, IsTreatedAnswer}
use Rattle.treated_command.specs.Telling.{treated_telling}
use Rattle.treated_command.specs.Requests.{Request, IsRequest, treated_row}
use Rattle.treated_command.specs.Command.{treated_command}

-- the uses ask for one request
one_request : (uses : List Use) (q r : Request) → IsRequest uses q → IsRequest uses r → r ≡ q
one_request uses q r a b = let s = one_subject treated_row uses q.file r.file q.x q.y r.x r.y a.subject b.subject in λ i. record {
  file = s.0 i;
  x = s.1 i;
  y = s.2 i;
  given = one_listed_or_empty (value_of uses (codes "given")) q.given r.given a.given b.given i;
  form = same_Some r.form q.form (sym b.form ∙ a.form) i;
}

-- an answer ends with yes where no treatment is confounded, and with no where one is
abbrev IsSettled : MixedGraph → Sets → Outcome → Type 0
IsSettled q s o = ((o ≡ Yes) × (IsConfounded q s.x.bits s.y.bits s.given.bits → ⊥)) ⊎ ((o ≡ No) × IsConfounded q s.x.bits s.y.bits s.given.bits)

settled : (certified : Bool) (q : MixedGraph) (s : Sets) (a : Answer) → Decides certified q s a → IsSettled q s (treated_telling.outcome a)
settled false q s (Formula a f) d = inl (refl, d.1.clear)
settled true q s (Formula a f) d = absurd d
settled false q s (Certified a c) d = absurd d
settled true q s (Certified a c) d = inl (refl, d.1.clear)
settled certified q s (Excluded a c h pair) d = inr (refl, d.1.by.confounded)
settled certified q s (Unfixed a c) d = inr (refl, d.1.by.confounded)

same_outcome : (q : MixedGraph) (s : Sets) (o p : Outcome) → IsSettled q s o → IsSettled q s p → o ≡ p
same_outcome q s o p (inl a) (inl b) = a.0 ∙ sym b.0
same_outcome q s o p (inr a) (inr b) = a.0 ∙ sym b.0
same_outcome q s o p (inl a) (inr b) = absurd (a.1 b.1)
same_outcome q s o p (inr a) (inl b) = absurd (b.1 a.1)

module _ (q : MixedGraph) (l : Lists) where
  -- lists name one set each
  same_sets : (P : Sets → Type 0) (s t : Sets) → AreListedSets l s.x.bits s.y.bits s.given.bits → AreListedSets l t.x.bits t.y.bits t.given.bits → P t → P s
  same_sets P s t n m p = subst P (λ i. record {
    x = record { bits = one_set l.observed l.x s.x.bits t.x.bits n.set_x m.set_x i };
    y = record { bits = one_set l.observed l.y s.y.bits t.y.bits n.set_y m.set_y i };
    given = record { bits = one_set l.observed l.given s.given.bits t.given.bits n.set_given m.set_given i };
  }) p

  -- an empty x is no fault
  list_fault_of : (fault : TargetFault) → IsListFault l fault → IsFaultOfTarget (fault_in l) l.y some_list fault
  list_fault_of listed.EmptyX h = absurd h
  list_fault_of fault h = h

  -- lists that name sets have no fault of a name
  named_no_fault : (s : Sets) (fault : TargetFault) → AreListedSets l s.x.bits s.y.bits s.given.bits → IsListFault l fault → ⊥
  named_no_fault s fault n h = no_fault_of (fault_in l) l.y some_list fault n.no_fault n.some_y is_some_list (list_fault_of fault h)

module _ (certified : Bool) (q : MixedGraph) (l : Lists) where
  -- sets that are answered have no fault
  sets_no_fault : (s : Sets) (a : Answer) (fault : TreatedFault) → IsForSets certified q s a → IsFaultOfSets q l.observed s fault → ⊥
  sets_no_fault s a (Listed fault) f h = h
  sets_no_fault s a (After name) f h = f.before h.vertex h.lowest.member h.lowest.after
  sets_no_fault s a TooMany f h = let few = f.few in let many = h.many in absurd (omega (arith, few, many))
  sets_no_fault s a NoMemory f h = h

  of_sets : (a : Answer) (fault : TreatedFault) → IsOfSets l (λ s. IsForSets certified q s a) → IsOfSets l (λ s. IsFaultOfSets q l.observed s fault) → ⊥
  of_sets a fault f h =
      sets_no_fault f.sets a fault f.is (same_sets q l (λ s. IsFaultOfSets q l.observed s fault) f.sets h.sets f.named h.named h.is)

  answered_no_fault : (a : Answer) (fault : TreatedFault) → IsOfSets l (λ s. IsForSets certified q s a) → IsFault q l fault → ⊥
  answered_no_fault a (Listed fault) f h = named_no_fault q l f.sets fault f.named h
  answered_no_fault a (After name) f h = of_sets a (After name) f h
  answered_no_fault a TooMany f h = of_sets a TooMany f h
  answered_no_fault a NoMemory f h = of_sets a NoMemory f h

-- right answers in two forms end alike
module _ (certified other : Bool) (q : MixedGraph) (l : Lists) where
  same_kind : (a b : Answer) → IsOfSets l (λ s. IsForSets certified q s a) → IsOfSets l (λ s. IsForSets other q s b)
      → treated_telling.outcome a ≡ treated_telling.outcome b
  same_kind a b f g = same_outcome q f.sets (treated_telling.outcome a) (treated_telling.outcome b) (settled certified q f.sets a f.is.decided)
      (settled other q f.sets b (same_sets q l (λ s. IsForSets other q s b) f.sets g.sets f.named g.named g.is).decided)

  alike : (a b : Result Answer TreatedFault) → IsForNames certified q l a → IsForNames other q l b
      → outcome_in treated_telling treated_refusal a ≡ outcome_in treated_telling treated_refusal b
  alike (Ok a) (Ok b) f g = same_kind a b f g
  alike (Ok a) (Err fault) f g = absurd (answered_no_fault certified q l a fault f g)
  alike (Err fault) (Ok b) f g = absurd (answered_no_fault other q l b fault g f)
  alike (Err fault) (Err another) f g = refl

answered : (a : Answer) → IsAnswered (treated_telling.outcome a)
answered (Formula a f) = tt
answered (Certified a c) = tt
answered (Excluded a c h pair) = tt
answered (Unfixed a c) = tt

-- right answers in two forms on diagrams that are the same end alike
pub treated_alike : (certified other : Bool) (d e : Diagram) → AreSameDiagrams d e → (x y : Names) (given : List (List ℕ)) (a b : Result Answer TreatedFault)
    → IsTreatedAnswer certified d x y given a → IsTreatedAnswer other e x y given b
    → outcome_in treated_telling treated_refusal a ≡ outcome_in treated_telling treated_refusal b
treated_alike certified other d e s x y given a b f g =
    let lists = λ (d : Diagram). query_lists d.read d.observed.names x y (Some given) in
    alike certified other (graph_of d.observed.graph) (lists d) a b f
    (subst (λ (l : Lists). IsForNames other (graph_of d.observed.graph) l b) (same_query_lists x y (Some given) d e s)
    (subst (λ (q : MixedGraph). IsForNames other q (lists e) b) (sym (same_drawing d e s)) g))

-- what is told of them
told_alike : (certified other : Bool) (form another : Form) (x y : Names) (given : List (List ℕ)) (d e : Diagram) → AreSameDiagrams d e → (o p : Outcome)
    (told twin : Told) → Tells treated_telling treated_refusal (IsTreatedAnswer certified d x y given) form d.observed.names o told
    → Tells treated_telling treated_refusal (IsTreatedAnswer other e x y given) another e.observed.names p twin → o ≡ p
told_alike certified other form another x y given d e s o p told twin a b =
    a.ends ∙ treated_alike certified other d e s x y given a.answer b.answer a.right b.right ∙ sym b.ends

-- answers in two forms end alike
pub forms_agree : FormsAgree
forms_agree bytes x y given = one_on_diagram bytes (λ d o told. (certified : Bool) × (form : Form)
    × Tells treated_telling treated_refusal (IsTreatedAnswer certified d x y given) form d.observed.names o told)
    (λ d e s o p told twin a b. told_alike a.0 b.0 a.1 b.1 x y given d e s o p told twin a.2 b.2)

-- what holds of each command holds of it
pub treated_lawful : IsLawful treated_command
treated_lawful = lawful_on_file one_request
    (λ q d o told h. told_answered treated_telling treated_refusal answered (λ e. tt) (IsTreatedAnswer (is_certified q.form.writing) d q.x q.y q.given) q.form
    d.observed.names o told h)
    (λ q bytes. let certified = is_certified q.form.writing in
    one_on_diagram bytes (λ d. Tells treated_telling treated_refusal (IsTreatedAnswer certified d q.x q.y q.given) q.form d.observed.names)
    (told_alike certified certified q.form q.form q.x q.y q.given))
