-- The command `adjust`.
use Rattle.replies.specs.Vocabulary.{CommandForm}
use Rattle.told.specs.Vocabulary.{told_on_file, plain_form}
use Rattle.adjust_command.specs.Requests.{Request, IsRequest}
use Rattle.adjust_command.specs.Right.{IsAdjustAnswer}
use Rattle.adjust_command.specs.Telling.{adjust_telling}

-- its request and its answers
abbrev pub adjust_command : CommandForm
adjust_command = told_on_file Request IsRequest (λ q. plain_form q.format) (λ q. q.file) adjust_telling (λ q d. IsAdjustAnswer d q.x q.y q.query)
