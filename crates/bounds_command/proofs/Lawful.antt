-- The command's words ask for one request, and its answers have one outcome.
use Rattle.std.proofs.Common.{◌≡◌, ℕ, List, Some, Result, Ok, Err, refl, sym, subst, ◌∙◌}
use Rattle.std.specs.Prelude.{codes}
use Rattle.std.proofs.lemmas.Option.{same_Some}
use Rattle.command_words.specs.Vocabulary.{Use, value_of}
use Rattle.mixed_graph.specs.Vocabulary.{MixedGraph, graph_of}
use Rattle.targets.specs.declared.fault.TargetFault.{TargetFault}
use Rattle.diagram.specs.declared.diagram.Diagram.{Diagram}
use Rattle.diagram.specs.Vocabulary.{Names}
use Rattle.diagram.proofs.OneDiagram.{AreSameDiagrams, same_drawing, same_query_lists}
use Rattle.replies.specs.Vocabulary.{IsAnswerOn, IsAnswered, IsLeft}
use Rattle.replies.specs.OneOutcome.{OneOutcome}
use Rattle.replies.proofs.Commands.{IsLawful, lawful_on_two_inputs}
use Rattle.replies.proofs.OneOutcome.{one_on_diagram}
use Rattle.told.proofs.OneSubject.{one_subject}
use Rattle.told.specs.Vocabulary.{plain_form, target_refusal, Tells, outcome_in}
use Rattle.told.proofs.ToldOnce.{told_answered}
use Rattle.bound_values.specs.declared.questions.Question.{Question}
use Rattle.bound_values.specs.declared.found.Found.TheVariants.{Crossed, Bounded}
use Rattle.bound_values.specs.declared.found.Found.{Found}
use Rattle.bounds_command.specs.declared.answer.Answer.{Answer}
use Rattle.bounds_command.specs.declared.faults.BoundsFault.{BoundsFault}
use Rattle.bounds_command.specs.declared.faults.BoundsFault.TheVariants.{TooLong, Counts, NoRecords, TooWide, NoMemory}
use Rattle.bounds_command.specs.declared.first.Unmet.{Unmet}
use Rattle.bounds_command.specs.Requests.{Request, IsRequest, bounds_row}
use Rattle.bounds_command.specs.Ways.{Way, by_instruments, by_adjusting}
use Rattle.bounds_command.specs.Asking.{AskedLists, of_instruments, of_set, asked_lists, IsAsked}
use Rattle.bounds_command.specs.BoundsTelling.{bounds_telling, found_outcome}
use Rattle.bounds_command.specs.Faults.{bounds_refusal}
use Rattle.bounds_command.specs.First.{unmet_telling, IsNotAsked, lists_of}
use Rattle.bounds_command.specs.Right.{IsKnown, IsBounded, CountsAnswer}
use Rattle.bounds_command.specs.Command.{bounds_command, bounds_left}
use Rattle.bounds_command.proofs.Exclusive.{asked_alone, first_alike, counts_alike}
use Rattle.bounds_command.proofs.NoWays.{AreListed, one_way}
use Rattle.bounds_command.proofs.OneQuestion.{one_question}

-- the lists of a request
lists_in : (uses : List Use) (q : Request) → IsRequest uses q
    → AreListed (value_of uses (codes "set")) (value_of uses (codes "given")) (value_of uses (codes "instrument")) (value_of uses (codes "strata"))
lists_in uses q is = record {
  set = is.set;
  given = is.given;
  instruments = is.instruments;
  strata = is.strata;
  is_set = is.is_set;
  is_given = is.is_given;
  are_instruments = is.are_instruments;
  are_strata = is.are_strata;
}

-- the uses ask for one request
one_request : (uses : List Use) (q r : Request) → IsRequest uses q → IsRequest uses r → r ≡ q
unfolding lists_in
one_request uses q r a b = let s = one_subject bounds_row uses q.file r.file q.x q.y r.x r.y a.subject b.subject in λ i. record {
  file = s.0 i;
  counts = same_Some r.counts q.counts (sym b.counts ∙ a.counts) i;
  x = s.1 i;
  y = s.2 i;
  way = same_Some r.way q.way (sym b.is_way ∙ one_way (value_of uses (codes "set")) (value_of uses (codes "given")) (value_of uses (codes "instrument"))
      (value_of uses (codes "strata")) (lists_in uses q a) (lists_in uses r b) ∙ a.is_way) i;
  count = (sym b.count ∙ a.count) i;
  exact = (sym b.exact ∙ a.exact) i;
  format = (b.format ∙ sym a.format) i;
}

-- ---- outcomes that commands answer
found_answered : (f : Found) → IsAnswered (found_outcome f)
found_answered (Bounded bounds) = tt
found_answered (Crossed c) = tt

fault_answered : (names : List (List ℕ)) (f : BoundsFault) → IsAnswered ((bounds_refusal names).outcome f)
fault_answered names TooLong = tt
fault_answered names (Counts fault) = tt
fault_answered names (NoRecords counts given at) = tt
fault_answered names TooWide = tt
fault_answered names NoMemory = tt

-- ---- diagrams that are the same
lists_by : (way : Way) (x y : Names) (d e : Diagram) → AreSameDiagrams d e → asked_lists way e x y ≡ asked_lists way d x y
lists_by (by_instruments given instruments strata) x y d e s =
    λ i. of_instruments (record { query = same_query_lists x y (Some given) d e s i; instruments = instruments; strata = strata })
lists_by (by_adjusting set) x y d e s = λ i. of_set (same_query_lists x y (Some set) d e s i)

lists_same : (q : Request) (d e : Diagram) → AreSameDiagrams d e → lists_of q e ≡ lists_of q d
lists_same q d e s = lists_by q.way q.x q.y d e s

asked_same : (q : Request) (d e : Diagram) → AreSameDiagrams d e → (b : Question) → IsAsked (graph_of e.observed.graph) (lists_of q e) b
    → IsAsked (graph_of d.observed.graph) (lists_of q d) b
asked_same q d e s b h = subst (λ (l : AskedLists). IsAsked (graph_of d.observed.graph) l b) (lists_same q d e s)
    (subst (λ (g : MixedGraph). IsAsked g (lists_of q e) b) (sym (same_drawing d e s)) h)

first_same : (q : Request) (d e : Diagram) → AreSameDiagrams d e → (r : Result Unmet TargetFault)
    → IsNotAsked (graph_of e.observed.graph) (lists_of q e) r
    → IsNotAsked (graph_of d.observed.graph) (lists_of q d) r
first_same q d e s r h = subst (λ (l : AskedLists). IsNotAsked (graph_of d.observed.graph) l r) (lists_same q d e s)
    (subst (λ (g : MixedGraph). IsNotAsked g (lists_of q e) r) (sym (same_drawing d e s)) h)

-- ---- one outcome
first_once : (q : Request) (bytes : List ℕ) → OneOutcome (IsAnswerOn bytes
    (λ d. Tells unmet_telling target_refusal (IsNotAsked (graph_of d.observed.graph) (lists_of q d)) (plain_form q.format) d.observed.names))
first_once q bytes = one_on_diagram bytes _ (λ d e s o p told other a b.
    a.ends ∙ first_alike (graph_of d.observed.graph) (lists_of q d) a.answer b.answer a.right (first_same q d e s b.answer b.right) ∙ sym b.ends)

same_counts : (q : Request) (d e : Diagram) → AreSameDiagrams d e → (other : List ℕ) (a b : Question) → b ≡ a → (r : Result Answer BoundsFault)
    → IsBounded q.exact (graph_of e.observed.graph) e.observed.names b q.count other r
    → IsBounded q.exact (graph_of d.observed.graph) d.observed.names a q.count other r
same_counts q d e s other a b same r h =
    subst (λ (k : Question). IsBounded q.exact (graph_of d.observed.graph) d.observed.names k q.count other r) same
    (subst (λ (names : List (List ℕ)). IsBounded q.exact (graph_of d.observed.graph) names b q.count other r) s.observed.names
    (subst (λ (g : MixedGraph). IsBounded q.exact g e.observed.names b q.count other r) (sym (same_drawing d e s)) h))

outcome_names : (names more : List (List ℕ)) (r : Result Answer BoundsFault)
    → outcome_in bounds_telling (bounds_refusal more) r ≡ outcome_in bounds_telling (bounds_refusal names) r
outcome_names names more (Ok a) = refl
outcome_names names more (Err fault) = refl

both_once : (q : Request) (bytes other : List ℕ) → OneOutcome (IsAnswerOn bytes (λ d o told. (b : Question)
    × IsAsked (graph_of d.observed.graph) (lists_of q d) b
    × CountsAnswer q.format q.exact (graph_of d.observed.graph) d.observed.names b q.count other o told))
both_once q bytes other = one_on_diagram bytes _ (λ d e s o p told more a b.
    let same = one_question (graph_of d.observed.graph) (lists_of q d) a.0 b.0 a.1 (asked_same q d e s b.0 b.1) in
    a.2.ends
    ∙ counts_alike q.exact (graph_of d.observed.graph) d.observed.names a.0 q.count other a.2.answer b.2.answer a.2.right
    (same_counts q d e s other a.0 b.0 same b.2.answer b.2.right)
    ∙ outcome_names e.observed.names d.observed.names b.2.answer
    ∙ sym b.2.ends)

-- what holds of each command holds of it
pub bounds_lawful : IsLawful bounds_command
bounds_lawful = lawful_on_two_inputs one_request
    (λ q d o told a. told_answered unmet_telling target_refusal (λ i. tt) (λ e. tt) (IsNotAsked (graph_of d.observed.graph) (lists_of q d))
    (plain_form q.format) d.observed.names o told a)
    (λ q d other o told a. told_answered bounds_telling (bounds_refusal d.observed.names) (λ i. found_answered i.found) (fault_answered d.observed.names)
    (IsBounded q.exact (graph_of d.observed.graph) d.observed.names a.0 q.count other) (plain_form q.format) d.observed.names o told a.2)
    first_once
    both_once
    (λ q name d e same names o told a n. asked_alone (graph_of d.observed.graph) (lists_of q d) n.0 a.answer (asked_same q d e same n.0 n.1) a.right)

pub bounds_is_left : (q : Request) (d : Diagram) (b : Question) → IsKnown (graph_of d.observed.graph) d.observed.names b
    → IsAsked (graph_of d.observed.graph) (lists_of q d) b
    → IsLeft bounds_command q d (bounds_left q.format d.observed b q.counts q.count q.exact)
bounds_is_left q d b known asked = record {
  named = refl;
  continues = (b, asked);
  known = known;
  answers = λ other o told a. (b, asked, a);
}
