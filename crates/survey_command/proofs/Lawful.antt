-- The command's words ask for one request, and its answers end alike.
use Rattle.std.proofs.Common.{◌≡◌, ◌-◌, ◌∙◌, List, [], Result, Ok, Err, refl, sym}
use Rattle.std.specs.Prelude.{◌^◌, codes}
use Rattle.command_words.specs.Vocabulary.{Use, word_of}
use Rattle.command_words.proofs.OneValue.{one_needed_number}
use Rattle.targets.specs.declared.fault.TargetFault.{TargetFault}
use Rattle.replies.specs.declared.outcome.Outcome.TheVariants.{Yes}
use Rattle.replies.proofs.Commands.{IsLawful, lawful_on_words}
use Rattle.told.specs.Vocabulary.{plain_form, target_refusal, outcome_in}
use Rattle.told.proofs.ToldOnce.{told_answered}
use Rattle.survey_command.specs.declared.answer.Survey.{Survey}
use Rattle.survey_command.specs.Command.{survey_command}
use Rattle.survey_command.specs.Requests.{Request, IsRequest, survey_row}
use Rattle.survey_command.specs.Right.{IsSurveyAnswer}
use Rattle.survey_command.specs.Telling.{survey_telling}

-- the uses ask for one request
one_request : (uses : List Use) (q r : Request) → IsRequest uses q → IsRequest uses r → r ≡ q
one_request uses q r a b = λ i. record {
  seed = one_needed_number (word_of survey_row uses (codes "number")) 0 (2 ^ 64 - 1) q.seed r.seed a.seed b.seed i;
  format = (b.format ∙ sym a.format) i;
}

-- a survey is a yes
yes_alone : (q : Request) (r : Result Survey TargetFault) → IsSurveyAnswer q.seed r → outcome_in survey_telling target_refusal r ≡ Yes
yes_alone q (Ok a) right = refl
yes_alone q (Err fault) right = absurd right

-- what holds of each command holds of it
pub survey_lawful : IsLawful survey_command
survey_lawful = lawful_on_words one_request
    (λ q. told_answered survey_telling target_refusal (λ a. tt) (λ e. tt) (IsSurveyAnswer q.seed) (plain_form q.format) [])
    (λ q o p told other a b. a.ends ∙ yes_alone q a.answer a.right ∙ sym (b.ends ∙ yes_alone q b.answer b.right))
