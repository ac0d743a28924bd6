-- The command's words ask for one request, and its right answers end alike.
use Rattle.std.proofs.Common.{◌≡◌, ℕ, false, List, refl, sym, subst, ◌∙◌}
use Rattle.std.specs.Prelude.{codes}
use Rattle.std.proofs.lemmas.Option.{same_Some}
use Rattle.command_words.specs.Vocabulary.{Use, value_of}
use Rattle.command_words.proofs.OneValue.{one_listed, one_listed_or_empty}
use Rattle.diagram.specs.declared.diagram.Diagram.{Diagram}
use Rattle.replies.specs.declared.outcome.Outcome.{Outcome}
use Rattle.replies.specs.Told.{Told}
use Rattle.replies.specs.Vocabulary.{IsAnswered, IsLeft}
use Rattle.replies.proofs.Commands.{IsLawful, lawful_on_two_inputs}
use Rattle.replies.proofs.OneOutcome.{one_on_diagram}
use Rattle.told.specs.Vocabulary.{Tells}
use Rattle.told.proofs.ToldOnce.{told_answered}
use Rattle.treated_command.specs.Vocabulary.{treated_refusal, treated_telling}
use Rattle.treated_command.specs.declared.answer.Answer.{Answer as Lost}
use Rattle.treated_command.specs.declared.answer.Answer.TheVariants.{Formula, Certified, Excluded, Unfixed}
use Rattle.treated_command.proofs.Lawful.{treated_alike}
use Rattle.evaluate_command.specs.Vocabulary.{values_refusal}
use Rattle.evaluate_command.specs.declared.faults.ValuesFault.{ValuesFault}
use Rattle.evaluate_command.specs.declared.faults.ValuesFault.TheVariants.{TooLong, Counts, NoValue, NoMemory}
use Rattle.evaluate_treated.specs.Command.{evaluate_treated_command, evaluate_treated_left}
use Rattle.mixed_graph.specs.Vocabulary.{MixedGraph, graph_of}
use Rattle.evaluate_treated.specs.Effects.{HasPath, PlainAmong, Identifies}
use Rattle.evaluate_treated.specs.declared.identified.Way.{Way}
use Rattle.evaluate_treated.specs.declared.answer.Answer.{Answer as AmongAnswer}
use Rattle.evaluate_treated.specs.declared.answer.Answer.TheVariants as answers
use Rattle.evaluate_treated.specs.First.{IsForDiagram}
use Rattle.evaluate_treated.specs.Requests.{Request, IsRequest}
use Rattle.evaluate_treated.specs.Right.{IsForCounts}
use Rattle.evaluate_treated.specs.Telling.{among_telling}
use Rattle.evaluate_treated.proofs.Exclusive.{first_alone, counts_alike}
use Rattle.evaluate_treated.proofs.OneEffect.{same_effect}

-- the uses ask for one request
one_request : (uses : List Use) (q r : Request) → IsRequest uses q → IsRequest uses r → r ≡ q
one_request uses q r a b = λ i. record {
  effect = record {
    file = same_Some r.effect.file q.effect.file (sym b.file ∙ a.file) i;
    x = one_listed (value_of uses (codes "x")) q.effect.x r.effect.x a.x b.x i;
    y = one_listed (value_of uses (codes "y")) q.effect.y r.effect.y a.y b.y i;
    given = one_listed_or_empty (value_of uses (codes "given")) q.effect.given r.effect.given a.given b.given i;
    form = (b.form ∙ sym a.form) i;
  };
  counts = same_Some r.counts q.counts (sym b.counts ∙ a.counts) i;
  count = (sym b.count ∙ a.count) i;
  exact = (sym b.exact ∙ a.exact) i;
}

lost_answered : (a : Lost) → IsAnswered (treated_telling.outcome a)
lost_answered (Formula a f) = tt
lost_answered (Certified a c) = tt
lost_answered (Excluded a c h pair) = tt
lost_answered (Unfixed a c) = tt

among_answered : (a : AmongAnswer) → IsAnswered (among_telling.outcome a)
among_answered (answers.Values a) = tt
among_answered (answers.NoModel a) = tt
among_answered (answers.Path a) = tt

refused : (f : ValuesFault) → IsAnswered (values_refusal.outcome f)
refused TooLong = tt
refused (Counts fault) = tt
refused (NoValue names t fault) = tt
refused NoMemory = tt

-- what is right for a request over both inputs
abbrev IsForBoth : Request → Diagram → List ℕ → Outcome → Told → Type 0
IsForBoth q d other o told = (e : PlainAmong) × Identifies d q.effect e
    × Tells among_telling values_refusal (IsForCounts q.exact e q.count other) q.effect.form e.names o told

-- what holds of each command holds of it
pub evaluate_treated_lawful : IsLawful evaluate_treated_command
evaluate_treated_lawful = lawful_on_two_inputs one_request
    (λ q d o told h. told_answered treated_telling treated_refusal lost_answered (λ e. tt) (IsForDiagram d q.effect) q.effect.form d.observed.names o told h)
    (λ q d other o told h. told_answered among_telling values_refusal among_answered refused (IsForCounts q.exact h.0 q.count other) q.effect.form h.0.names o told
    h.2)
    (λ q bytes. one_on_diagram bytes (λ d. Tells treated_telling treated_refusal (IsForDiagram d q.effect) q.effect.form d.observed.names)
    (λ d e s o p told other a b. a.ends ∙ treated_alike false false d e s q.effect.x q.effect.y q.effect.given a.answer b.answer a.right.0 b.right.0 ∙ sym b.ends))
    (λ q bytes other. one_on_diagram bytes (λ d. IsForBoth q d other) (λ d e s o p told line a b.
    a.2.ends ∙ counts_alike q.exact a.0 q.count other a.2.answer b.2.answer a.2.right
    (subst (λ (f : PlainAmong). IsForCounts q.exact f q.count other b.2.answer) (same_effect d e s q.effect a.0 b.0 a.1 b.1) b.2.right)
    ∙ sym b.2.ends))
    (λ q name d e same names o told a n. first_alone q.effect d e same a.answer n.0 a.right n.1)

pub evaluate_treated_is_left : (q : Request) (d : Diagram) (e : PlainAmong) (way : Way) → Identifies d q.effect e → HasPath (graph_of d.observed.graph) e.asked way
    → IsLeft evaluate_treated_command q d (evaluate_treated_left q.effect.form e way q.counts q.count q.exact)
evaluate_treated_is_left q d e way is path = record {
  named = refl;
  continues = (e, is);
  known = record { identified = is.identified; path = subst (λ (g : MixedGraph). HasPath g e.asked way) (sym is.graph) path };
  answers = λ other o told a. (e, is, a);
}
