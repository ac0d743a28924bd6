-- The command's words ask for one request, and its right answers end alike.
use Rattle.std.proofs.Common.{◌≡◌, ℕ, Bool, false, List, Option, Result, Ok, Err, refl, sym, subst, ◌∙◌}
use Rattle.std.specs.Prelude.{codes}
use Rattle.std.proofs.lemmas.Option.{same_Some}
use Rattle.mixed_graph.specs.Vocabulary.{graph_of}
use Rattle.count_rows.specs.Vocabulary.{Field}
use Rattle.command_words.specs.Vocabulary.{Use, value_of}
use Rattle.command_words.proofs.OneValue.{one_listed, one_listed_or_empty, one_needed_list}
use Rattle.diagram.specs.declared.diagram.Diagram.{Diagram}
use Rattle.diagram.proofs.OneDiagram.{AreSameDiagrams}
use Rattle.replies.specs.declared.outcome.Outcome.{Outcome}
use Rattle.replies.specs.declared.outcome.Outcome.TheVariants.{Yes}
use Rattle.replies.specs.Vocabulary.{IsAnswered, IsAnswerOn, IsLeft}
use Rattle.replies.specs.OneOutcome.{OneOutcome}
use Rattle.replies.specs.Told.{Told}
use Rattle.replies.proofs.Commands.{IsLawful, lawful_on_two_inputs}
use Rattle.replies.proofs.OneOutcome.{one_on_diagram}
use Rattle.told.specs.Vocabulary.{Tells, outcome_in}
use Rattle.told.proofs.ToldOnce.{told_answered}
use Rattle.natural_command.specs.Requests as asking
use Rattle.natural_command.specs.Vocabulary.{natural_lists, natural_refusal, natural_telling}
use Rattle.natural_command.specs.declared.answer.Answer.{Answer as Found}
use Rattle.natural_command.specs.declared.answer.Answer.TheVariants as natural
use Rattle.natural_command.specs.declared.fault.NaturalFault.{NaturalFault}
use Rattle.natural_command.proofs.Lawful.{alike, same_answer}
use Rattle.evaluate_command.specs.Vocabulary.{values_refusal}
use Rattle.evaluate_command.specs.declared.faults.ValuesFault.{ValuesFault}
use Rattle.evaluate_command.specs.declared.faults.ValuesFault.TheVariants.{TooLong, Counts, NoValue, NoMemory}
use Rattle.evaluate_natural.specs.Effects.{PlainNested, Identifies, paired_in}
use Rattle.evaluate_natural.specs.First.{HasNoFormula, IsForDiagram}
use Rattle.evaluate_natural.specs.Right.{AreValuesOf, HasNoValue, IsForCounts}
use Rattle.evaluate_natural.specs.Requests.{Request, IsRequest}
use Rattle.evaluate_natural.specs.Command.{evaluate_natural_command, evaluate_natural_left}
use Rattle.evaluate_natural.specs.Telling.{nested_telling}
use Rattle.evaluate_natural.specs.declared.answer.Answer.{Answer}
use Rattle.paired_values.specs.Vocabulary.{read_in}
use Rattle.paired_values.specs.declared.fault.PairFault.TheVariants.{Stopped}
use Rattle.paired_values.proofs.Counted.{bytes_alike}
use Rattle.paired_values.proofs.OneTable.{all_or_why}
use Rattle.evaluate_natural.proofs.OneEffect.{same_effect}

-- the uses ask for one effect
one_effect : (uses : List Use) (q r : Request) → IsRequest uses q → IsRequest uses r → r.effect ≡ q.effect
one_effect uses q r a b = λ i. record {
  file = same_Some r.effect.file q.effect.file (sym b.file ∙ a.file) i;
  x = one_listed (value_of uses (codes "x")) q.effect.x r.effect.x a.x b.x i;
  y = one_listed (value_of uses (codes "y")) q.effect.y r.effect.y a.y b.y i;
  through = one_needed_list (value_of uses (codes "through")) q.effect.through r.effect.through a.through b.through i;
  given = one_listed_or_empty (value_of uses (codes "given")) q.effect.given r.effect.given a.given b.given i;
  form = (b.form ∙ sym a.form) i;
}

-- and for one request
one_request : (uses : List Use) (q r : Request) → IsRequest uses q → IsRequest uses r → r ≡ q
one_request uses q r a b = λ i. record {
  effect = one_effect uses q r a b i;
  counts = same_Some r.counts q.counts (sym b.counts ∙ a.counts) i;
  count = (sym b.count ∙ a.count) i;
  exact = (sym b.exact ∙ a.exact) i;
}

-- ---- before the counts

found_answered : (a : Found) → IsAnswered (natural_telling.outcome a)
found_answered (natural.Formula a f) = tt
found_answered (natural.Certified a c) = tt
found_answered (natural.Excluded a h pair) = tt
found_answered (natural.Witness a w other) = tt
found_answered (natural.Split a s other) = tt

-- what is answered without counts ends otherwise than a formula does
no_yes : (r : Result Found NaturalFault) → HasNoFormula r → outcome_in natural_telling natural_refusal r ≡ Yes → ⊥
no_yes (Ok (natural.Formula a f)) none e = none
no_yes (Ok (natural.Certified a c)) none e = none
no_yes (Ok (natural.Excluded a h pair)) none e = absurd (cc e)
no_yes (Ok (natural.Witness a w other)) none e = absurd (cc e)
no_yes (Ok (natural.Split a s other)) none e = absurd (cc e)
no_yes (Err fault) none e = absurd (cc e)

module _ (q : asking.Request) (d e : Diagram) (s : AreSameDiagrams d e) where
  first_alike : (a b : Result Found NaturalFault) → IsForDiagram d q a → IsForDiagram e q b
      → outcome_in natural_telling natural_refusal a ≡ outcome_in natural_telling natural_refusal b
  first_alike a b f h = alike false false (graph_of d.observed.graph) (natural_lists d q.x q.y q.through q.given) a b f.0
      (same_answer false q.x q.y q.through q.given d e s b h.0)

  first_alone : (a : Result Found NaturalFault) (f : PlainNested) → IsForDiagram d q a → Identifies e q f → ⊥
  first_alone a f h i = no_yes a h.1
      (alike false false (graph_of d.observed.graph) (natural_lists d q.x q.y q.through q.given) a (Ok (natural.Formula f.asked i.found.formula)) h.0
      (same_answer false q.x q.y q.through q.given d e s (Ok (natural.Formula f.asked i.found.formula)) i.found.answered))

-- ---- over the bytes of counts

refused : (f : ValuesFault) → IsAnswered (values_refusal.outcome f)
refused TooLong = tt
refused (Counts fault) = tt
refused (NoValue names t fault) = tt
refused NoMemory = tt

module _ (is_exact : Bool) (e : PlainNested) (count : Option Field) (bytes : List ℕ) where
  counts_alike : (a b : Result Answer ValuesFault) → IsForCounts is_exact e count bytes a → IsForCounts is_exact e count bytes b
      → outcome_in nested_telling values_refusal a ≡ outcome_in nested_telling values_refusal b
  counts_alike = bytes_alike e.names (read_in (paired_in e)) (AreValuesOf is_exact e) (HasNoValue is_exact e) count bytes nested_telling
      (λ t u ht hu a right fault lacks. all_or_why e.names (read_in (paired_in e)) bytes count t u ht hu is_exact (paired_in e) a.values (Stopped fault)
      right.values.evaluated lacks)
      (λ t u ht hu a b x y. refl)

-- what is right for a request over both inputs
abbrev IsForBoth : Request → Diagram → List ℕ → Outcome → Told → Type 0
IsForBoth q d other o told = (e : PlainNested) × Identifies d q.effect e
    × Tells nested_telling values_refusal (IsForCounts q.exact e q.count other) q.effect.form e.names o told

both_once : (q : Request) (bytes other : List ℕ) → OneOutcome (IsAnswerOn bytes (λ d. IsForBoth q d other))
both_once q bytes other = one_on_diagram bytes (λ d. IsForBoth q d other) (λ d e s o p told line a b.
    a.2.ends ∙ counts_alike q.exact a.0 q.count other a.2.answer b.2.answer a.2.right
    (subst (λ (f : PlainNested). IsForCounts q.exact f q.count other b.2.answer) (same_effect q.effect d e s a.0 b.0 a.1 b.1) b.2.right)
    ∙ sym b.2.ends)

-- what holds of each command holds of it
pub evaluate_natural_lawful : IsLawful evaluate_natural_command
evaluate_natural_lawful = lawful_on_two_inputs one_request
    (λ q d. told_answered natural_telling natural_refusal found_answered (λ fault. tt) (IsForDiagram d q.effect) q.effect.form d.observed.names)
    (λ q d other o told a. told_answered nested_telling values_refusal (λ v. tt) refused (IsForCounts q.exact a.0 q.count other)
    q.effect.form a.0.names o told a.2)
    (λ q bytes. one_on_diagram bytes
    (λ d. Tells natural_telling natural_refusal (IsForDiagram d q.effect) q.effect.form d.observed.names)
    (λ d e s o p told line a b. a.ends ∙ first_alike q.effect d e s a.answer b.answer a.right b.right ∙ sym b.ends))
    both_once
    (λ q name d e same names o told a n. first_alone q.effect d e same a.answer n.0 a.right n.1)

pub evaluate_natural_is_left : (q : Request) (d : Diagram) (e : PlainNested) → Identifies d q.effect e
    → IsLeft evaluate_natural_command q d (evaluate_natural_left q.effect.form e q.counts q.count q.exact)
evaluate_natural_is_left q d e is = record { named = refl; continues = (e, is); known = is.identified; answers = λ other o told a. (e, is, a) }
