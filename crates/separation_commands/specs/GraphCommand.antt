-- The command `graph`.
use Rattle.replies.specs.Vocabulary.{CommandForm}
use Rattle.told.specs.Vocabulary.{told_on_file, plain_form}
use Rattle.separation_commands.specs.GraphRight.{IsGraphAnswer}
use Rattle.separation_commands.specs.GraphTelling.{graph_telling}
use Rattle.separation_commands.specs.GraphRequests.{Request, IsRequest}

-- its request and its answers
abbrev pub graph_command : CommandForm
graph_command = told_on_file Request IsRequest (λ q. plain_form q.format) (λ q. q.file) graph_telling (λ q d. IsGraphAnswer q.project d)
