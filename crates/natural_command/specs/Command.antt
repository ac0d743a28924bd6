-- The command `natural`.
use Rattle.replies.specs.Vocabulary.{CommandForm, on_file}
use Rattle.told.specs.Vocabulary.{Tells, is_certified}
use Rattle.natural_command.specs.Faults.{natural_refusal}
use Rattle.natural_command.specs.Right.{IsNaturalAnswer}
use Rattle.natural_command.specs.Telling.{natural_telling}
use Rattle.natural_command.specs.Requests.{Request, IsRequest}

-- its request and its answers
abbrev pub natural_command : CommandForm
natural_command = on_file Request IsRequest (λ q. q.form.format) (λ q. q.file)
    (λ q d. Tells natural_telling natural_refusal (IsNaturalAnswer (is_certified q.form.writing) d q.x q.y q.through q.given) q.form d.observed.names)
