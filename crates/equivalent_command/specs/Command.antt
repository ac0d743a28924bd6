-- The command `equivalent`.
use Rattle.std.specs.Prelude.{Option, Some}
use Rattle.command_words.specs.Vocabulary.{Text}
use Rattle.diagram.specs.declared.diagram.Diagram.{Diagram}
use Rattle.replies.specs.declared.format.Format.{Format}
use Rattle.replies.specs.Vocabulary.{CommandForm, Remainder}
use Rattle.targets.specs.declared.query.Sets.{Sets}
use Rattle.told.specs.Vocabulary.{plain_form, Tells, told_on_two_inputs}
use Rattle.equivalent_command.specs.Requests.{Query, Request, IsRequest}
use Rattle.equivalent_command.specs.Right.{IsForFirst, IsAcceptedFirst, IsForSecond}
use Rattle.equivalent_command.specs.SecondFaults.{second_refusal}
use Rattle.equivalent_command.specs.Telling.{equivalent_telling}

-- its request and its answers
abbrev pub equivalent_command : CommandForm
equivalent_command = told_on_two_inputs Request IsRequest (λ q. plain_form q.format) (λ q. q.file) (λ q. Some q.second) equivalent_telling second_refusal
    (λ q d. IsForFirst d q.query) (λ q d. IsAcceptedFirst d q.query) (λ q d s. IsForSecond d.observed s)

-- what is left once the first diagram was accepted: the comparison with the second one, and what both say of the sets that are asked about
abbrev pub equivalent_left : Format → Diagram → Option Sets → (second : Text) → Remainder
equivalent_left format d s second = record {
  second = second;
  limit = 1048576;
  known = (l : Option Query) × IsAcceptedFirst d l s;
  answer = λ other. Tells equivalent_telling second_refusal (IsForSecond d.observed s other) (plain_form format) d.observed.names;
}
