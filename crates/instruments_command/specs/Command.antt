-- The command `instruments`.
use Rattle.replies.specs.Vocabulary.{CommandForm}
use Rattle.told.specs.Vocabulary.{told_on_file, plain_form}
use Rattle.instruments_command.specs.Requests.{Request, IsRequest}
use Rattle.instruments_command.specs.Right.{IsInstrumentsAnswer}
use Rattle.instruments_command.specs.Telling.{instruments_telling}

-- its request and its answers
abbrev pub instruments_command : CommandForm
instruments_command = told_on_file Request IsRequest (λ q. plain_form q.format) (λ q. q.file) instruments_telling (λ q d. IsInstrumentsAnswer d q.x q.y q.most)
