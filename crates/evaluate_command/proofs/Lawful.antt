-- The command's words ask for one request, and its right answers end alike.
use Rattle.std.proofs.Common.{◌≡◌, ℕ, List, refl, sym, ap, subst, ◌∙◌}
use Rattle.std.specs.Prelude.{codes}
use Rattle.std.proofs.lemmas.Option.{same_Some}
use Rattle.command_words.specs.Vocabulary.{Use, value_of, has_flag}
use Rattle.command_words.proofs.OneValue.{one_listed, one_listed_or_empty}
use Rattle.diagram.specs.declared.diagram.Diagram.{Diagram}
use Rattle.diagram.specs.Vocabulary.{Names}
use Rattle.replies.specs.declared.outcome.Outcome.{Outcome}
use Rattle.replies.specs.Vocabulary.{IsLeft, IsAnswerOn, IsAnswered}
use Rattle.replies.specs.OneOutcome.{OneOutcome}
use Rattle.replies.specs.Told.{Told}
use Rattle.replies.proofs.Commands.{IsLawful, lawful_on_two_inputs_where}
use Rattle.replies.proofs.OneOutcome.{one_on_diagram}
use Rattle.told.specs.Vocabulary.{plain_form, target_refusal, Tells}
use Rattle.told.proofs.ToldOnce.{told_answered}
use Rattle.evaluate_command.specs.Ways.{way_for, FixesFormula}
use Rattle.evaluate_command.specs.Effects.{PlainEffect, Identifies}
use Rattle.evaluate_command.specs.Telling.{evaluate_telling}
use Rattle.evaluate_command.specs.First.{IsForDiagram}
use Rattle.evaluate_command.specs.Right.{IsForCounts}
use Rattle.evaluate_command.specs.ValuesFaults.{values_refusal}
use Rattle.evaluate_command.specs.declared.answer.Answer.{Answer}
use Rattle.evaluate_command.specs.declared.answer.Answer.TheVariants.{Values, Hedge, Joint, NotAdmissible}
use Rattle.evaluate_command.specs.declared.faults.ValuesFault.{ValuesFault}
use Rattle.evaluate_command.specs.declared.faults.ValuesFault.TheVariants.{TooLong, Counts, NoValue, NoMemory}
use Rattle.evaluate_command.specs.Requests.{Request, IsRequest}
use Rattle.evaluate_command.specs.Command.{evaluate_command, evaluate_left}
use Rattle.evaluate_command.proofs.Exclusive.{first_alike, first_alone, counts_alike}
use Rattle.evaluate_command.proofs.OneEffect.{same_effect}

one_way : (uses : List Use) (q r : Request) → IsRequest uses q → IsRequest uses r → r.way ≡ q.way
one_way uses q r a b =
    let sets : b.set ≡ a.set = one_listed (value_of uses (codes "set")) a.set b.set a.is_set b.is_set in
    let givens : b.given ≡ a.given = one_listed_or_empty (value_of uses (codes "given")) a.given b.given a.is_given b.is_given in
    let flag = has_flag uses (codes "back-door") in
    let short = has_flag uses (codes "short") in
    same_Some r.way q.way (sym b.is_way ∙ ap (λ (s : Names). way_for s b.given flag short) sets
    ∙ ap (λ (l : List (List ℕ)). way_for a.set l flag short) givens ∙ a.is_way)

-- the uses ask for one request
one_request : (uses : List Use) (q r : Request) → IsRequest uses q → IsRequest uses r → r ≡ q
one_request uses q r a b = λ i. record {
  file = same_Some r.file q.file (sym b.file ∙ a.file) i;
  counts = same_Some r.counts q.counts (sym b.counts ∙ a.counts) i;
  x = one_listed (value_of uses (codes "x")) q.x r.x a.x b.x i;
  y = one_listed (value_of uses (codes "y")) q.y r.y a.y b.y i;
  way = one_way uses q r a b i;
  count = (sym b.count ∙ a.count) i;
  exact = (sym b.exact ∙ a.exact) i;
  zero = (sym b.zero ∙ a.zero) i;
  matched = (sym b.matched ∙ a.matched) i;
  format = (b.format ∙ sym a.format) i;
}

answered : (a : Answer) → IsAnswered (evaluate_telling.outcome a)
answered (Values a) = tt
answered (Hedge h) = tt
answered (Joint t settled h) = tt
answered (NotAdmissible s fault) = tt

refused : (f : ValuesFault) → IsAnswered (values_refusal.outcome f)
refused TooLong = tt
refused (Counts fault) = tt
refused (NoValue names t fault) = tt
refused NoMemory = tt

-- what is right for a request over both inputs
abbrev IsForBoth : Request → Diagram → List ℕ → Outcome → Told → Type 0
IsForBoth q d other o told = (e : PlainEffect) × Identifies q.way d q.x q.y e
    × Tells evaluate_telling values_refusal (IsForCounts q.exact q.zero q.matched e q.count other) (plain_form q.format) e.names o told

both_once : (q : Request) → FixesFormula q.way → (bytes other : List ℕ) → OneOutcome (IsAnswerOn bytes (λ d. IsForBoth q d other))
both_once q fixed bytes other = one_on_diagram bytes (λ d. IsForBoth q d other) (λ d e s o p told line a b.
    a.2.ends ∙ counts_alike q.exact q.zero q.matched a.0 q.count other a.2.answer b.2.answer a.2.right
    (subst (λ (f : PlainEffect). IsForCounts q.exact q.zero q.matched f q.count other b.2.answer)
    (same_effect q.way fixed d e s q.x q.y a.0 b.0 a.1 b.1) b.2.right)
    ∙ sym b.2.ends)

-- what holds of each command holds of it
pub evaluate_lawful : IsLawful evaluate_command
evaluate_lawful = lawful_on_two_inputs_where one_request
    (λ q d. told_answered evaluate_telling target_refusal answered (λ fault. tt) (IsForDiagram q.way d q.x q.y) (plain_form q.format) d.observed.names)
    (λ q d other o told a. told_answered evaluate_telling values_refusal answered refused (IsForCounts q.exact q.zero q.matched a.0 q.count other)
    (plain_form q.format) a.0.names o told a.2)
    (λ q bytes. one_on_diagram bytes
    (λ d. Tells evaluate_telling target_refusal (IsForDiagram q.way d q.x q.y) (plain_form q.format) d.observed.names)
    (λ d e s o p told line a b. a.ends ∙ first_alike d e s q.x q.y q.way a.answer b.answer a.right b.right ∙ sym b.ends))
    both_once
    (λ q name d e same names o told a n. first_alone q.way d e same q.x q.y a.answer n.0 a.right n.1)

pub evaluate_is_left : (q : Request) (d : Diagram) (e : PlainEffect) → Identifies q.way d q.x q.y e
    → IsLeft evaluate_command q d (evaluate_left q.format e q.counts q.count q.exact q.zero q.matched)
evaluate_is_left q d e is = record { named = refl; continues = (e, is); known = is.identified; answers = λ other o told a. (e, is, a) }
