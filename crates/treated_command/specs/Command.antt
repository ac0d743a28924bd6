-- The command `treated`.
use Rattle.replies.specs.Vocabulary.{CommandForm, on_file}
use Rattle.told.specs.Vocabulary.{Tells, is_certified}
use Rattle.treated_command.specs.Faults.{treated_refusal}
use Rattle.treated_command.specs.Right.{IsTreatedAnswer}
use Rattle.treated_command.specs.Telling.{treated_telling}
use Rattle.treated_command.specs.Requests.{Request, IsRequest}

-- its request and its answers
abbrev pub treated_command : CommandForm
treated_command = on_file Request IsRequest (λ q. q.form.format) (λ q. q.file)
    (λ q d. Tells treated_telling treated_refusal (IsTreatedAnswer (is_certified q.form.writing) d q.x q.y q.given) q.form d.observed.names)
