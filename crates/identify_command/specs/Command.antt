-- The command `identify`.
use Rattle.replies.specs.Vocabulary.{CommandForm}
use Rattle.told.specs.Vocabulary.{is_certified, told_on_file}
use Rattle.identify_command.specs.Forms.{told_form}
use Rattle.identify_command.specs.Right.{IsIdentifyAnswer}
use Rattle.identify_command.specs.Telling.{identify_telling}
use Rattle.identify_command.specs.Requests.{Request, IsRequest}

-- its request and its answers
abbrev pub identify_command : CommandForm
identify_command = told_on_file Request IsRequest (λ q. told_form q.form) (λ q. q.file) identify_telling
    (λ q d. IsIdentifyAnswer q.form.short (is_certified q.form.writing) d q.x q.y q.given)
