-- The command `separate`.
use Rattle.replies.specs.Vocabulary.{CommandForm}
use Rattle.told.specs.Vocabulary.{told_on_file, plain_form}
use Rattle.separation_commands.specs.SeparateRight.{IsSeparateAnswer}
use Rattle.separation_commands.specs.SeparateTelling.{separate_telling}
use Rattle.separation_commands.specs.SeparateRequests.{Request, IsRequest}

-- its request and its answers
abbrev pub separate_command : CommandForm
separate_command = told_on_file Request IsRequest (λ q. plain_form q.format) (λ q. q.file) separate_telling (λ q d. IsSeparateAnswer d q.x q.y q.given)
