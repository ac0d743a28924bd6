-- The command `surrogate`.
use Rattle.replies.specs.Vocabulary.{CommandForm}
use Rattle.told.specs.Vocabulary.{told_on_file}
use Rattle.surrogate_command.specs.Forms.{wants_common, told_form}
use Rattle.surrogate_command.specs.Requests.{Request, IsRequest}
use Rattle.surrogate_command.specs.Right.{IsSurrogateAnswer}
use Rattle.surrogate_command.specs.Telling.{surrogate_telling}

-- its request and its answers
abbrev pub surrogate_command : CommandForm
surrogate_command = told_on_file Request IsRequest (λ q. told_form q.form) (λ q. q.file) surrogate_telling
    (λ q d. IsSurrogateAnswer (wants_common q.form.writing) d q.x q.y q.experiments)
