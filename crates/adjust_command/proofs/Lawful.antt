-- The command's words ask for one request, and its answers have one outcome.
use Rattle.std.proofs.Common.{◌≡◌, ℕ, List, sym, ap, ◌∙◌, subst}
use Rattle.mixed_graph.specs.Vocabulary.{MixedGraph, graph_of}
use Rattle.std.specs.Prelude.{codes, is_some}
use Rattle.std.proofs.lemmas.Option.{same_Some}
use Rattle.command_words.specs.Vocabulary.{Use, value_of, has_flag}
use Rattle.command_words.proofs.OneValue.{one_listed, one_number_or}
use Rattle.targets.specs.Vocabulary.{Lists}
use Rattle.diagram.specs.declared.diagram.Diagram.{Diagram}
use Rattle.diagram.specs.Vocabulary.{Names}
use Rattle.diagram.proofs.OneDiagram.{AreSameDiagrams, same_drawing}
use Rattle.replies.specs.declared.outcome.Outcome.{Outcome}
use Rattle.replies.specs.Told.{Told}
use Rattle.replies.proofs.OneOutcome.{one_on_diagram}
use Rattle.adjust_command.specs.Queries.{query_for, adjust_lists}
use Rattle.replies.specs.Vocabulary.{IsAnswered}
use Rattle.replies.proofs.Commands.{IsLawful, lawful_on_file}
use Rattle.told.proofs.OneSubject.{one_subject}
use Rattle.told.specs.Vocabulary.{plain_form, target_refusal, Tells}
use Rattle.told.proofs.ToldOnce.{told_answered}
use Rattle.adjust_command.specs.Requests.{Request, IsRequest, adjust_row}
use Rattle.adjust_command.specs.Command.{adjust_command}
use Rattle.adjust_command.specs.Right.{IsForNames, IsAdjustAnswer}
use Rattle.adjust_command.specs.Telling.{adjust_telling}
use Rattle.adjust_command.specs.declared.answer.Answer.{Answer}
use Rattle.adjust_command.specs.declared.answer.Answer.TheVariants.{Admissible, NotAdmissible, Listed, NoSet}
use Rattle.adjust_command.proofs.Exclusive.{alike, same_lists}

one_adjusting : (uses : List Use) (q r : Request) → IsRequest uses q → IsRequest uses r → r.query ≡ q.query
one_adjusting uses q r a b =
    let sets : b.set ≡ a.set = one_listed (value_of uses (codes "set")) a.set b.set a.is_set b.is_set in
    let most : b.most ≡ a.most = one_number_or 100 (value_of uses (codes "most")) 1 10000 a.most b.most a.is_most b.is_most in
    let back_door = has_flag uses (codes "back-door") in
    let counted = is_some (value_of uses (codes "most")) in
    same_Some r.query q.query (sym b.is_query ∙ ap (λ (s : Names). query_for s back_door counted b.most) sets
    ∙ ap (λ (m : ℕ). query_for a.set back_door counted m) most ∙ a.is_query)

-- the uses ask for one request
one_request : (uses : List Use) (q r : Request) → IsRequest uses q → IsRequest uses r → r ≡ q
one_request uses q r a b = let s = one_subject adjust_row uses q.file r.file q.x q.y r.x r.y a.subject b.subject in λ i. record {
  file = s.0 i;
  x = s.1 i;
  y = s.2 i;
  query = one_adjusting uses q r a b i;
  format = (b.format ∙ sym a.format) i;
}

answered : (a : Answer) → IsAnswered (adjust_telling.outcome a)
answered (Admissible sets) = tt
answered (NotAdmissible sets fault) = tt
answered (Listed asked sets more) = tt
answered (NoSet asked) = tt

-- what holds of each command holds of it
pub adjust_lawful : IsLawful adjust_command
adjust_lawful = lawful_on_file one_request
    (λ q d. told_answered adjust_telling target_refusal answered (λ fault. tt) (IsAdjustAnswer d q.x q.y q.query) (plain_form q.format) d.observed.names)
    (λ q bytes. one_on_diagram bytes (λ d. Tells adjust_telling target_refusal (IsAdjustAnswer d q.x q.y q.query) (plain_form q.format) d.observed.names) (once q))
  where
    once : (q : Request) (d e : Diagram) → AreSameDiagrams d e → (o p : Outcome) (told other : Told)
        → Tells adjust_telling target_refusal (IsAdjustAnswer d q.x q.y q.query) (plain_form q.format) d.observed.names o told
        → Tells adjust_telling target_refusal (IsAdjustAnswer e q.x q.y q.query) (plain_form q.format) e.observed.names p other → o ≡ p
    once q d e s o p told other a b =
        let lists = adjust_lists d.read d.observed.names q.x q.y q.query in
        a.ends
        ∙ alike q.query (graph_of d.observed.graph) lists d.observed.sized a.answer b.answer a.right
        (subst (λ (l : Lists). IsForNames q.query (graph_of d.observed.graph) l b.answer) (same_lists q.x q.y q.query d e s)
        (subst (λ (g : MixedGraph). IsForNames q.query g (adjust_lists e.read e.observed.names q.x q.y q.query) b.answer) (sym (same_drawing d e s)) b.right))
        ∙ sym b.ends
