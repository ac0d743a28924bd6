-- The command `survey`.
use Rattle.std.specs.Prelude.{[]}
use Rattle.replies.specs.Vocabulary.{CommandForm, on_words}
use Rattle.told.specs.Vocabulary.{plain_form, target_refusal, Tells}
use Rattle.survey_command.specs.Requests.{Request, IsRequest}
use Rattle.survey_command.specs.Right.{IsSurveyAnswer}
use Rattle.survey_command.specs.Telling.{survey_telling}

-- its request and its answers, in which no name of a vertex stands
abbrev pub survey_command : CommandForm
survey_command = on_words Request IsRequest (λ q. q.format)
    (λ q. Tells survey_telling target_refusal (IsSurveyAnswer q.seed) (plain_form q.format) [])
