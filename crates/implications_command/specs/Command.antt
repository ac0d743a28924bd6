-- The command `implications`.
use Rattle.std.specs.Prelude.{List, Option}
use Rattle.command_words.specs.Vocabulary.{Text}
use Rattle.diagram.specs.declared.diagram.Diagram.{Diagram}
use Rattle.replies.specs.declared.format.Format.{Format}
use Rattle.replies.specs.Vocabulary.{CommandForm, Remainder}
use Rattle.implications.specs.declared.pairs.Implication.{Implication}
use Rattle.told.specs.Vocabulary.{plain_form, Tells, told_on_two_inputs}
use Rattle.implications_command.specs.CountsFaults.{counts_refusal}
use Rattle.implications_command.specs.Pairs.{ArePairs, pairs_in}
use Rattle.implications_command.specs.Requests.{Request, IsRequest}
use Rattle.implications_command.specs.Right.{IsForGraph, IsForCounts}
use Rattle.implications_command.specs.Telling.{implications_telling}

-- its request and its answers
abbrev pub implications_command : CommandForm
implications_command = told_on_two_inputs Request IsRequest (λ q. plain_form q.format) (λ q. q.file) (λ q. q.counts) implications_telling counts_refusal
    (λ q d. IsForGraph q.counts d.observed) (λ q d list. ArePairs (pairs_in d.observed list))
    (λ q d list. IsForCounts (pairs_in d.observed list) q.count)

-- what is left on a diagram once there are pairs: how far the counts, whose column may have a name, are from each of them
abbrev pub implications_left : Format → Diagram → List Implication → (counts : Text) (count : Option Text) → Remainder
implications_left format d list counts count = record {
  second = counts;
  limit = 67108864;
  known = ArePairs (pairs_in d.observed list);
  answer = λ other. Tells implications_telling counts_refusal (IsForCounts (pairs_in d.observed list) count other) (plain_form format) d.observed.names;
}
