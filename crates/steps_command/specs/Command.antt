-- The command `steps`.
use Rattle.std.specs.Prelude.{ℕ, List}
use Rattle.command_words.specs.Vocabulary.{Text}
use Rattle.diagram.specs.declared.diagram.Diagram.{Diagram}
use Rattle.replies.specs.declared.format.Format.{Format}
use Rattle.replies.specs.Vocabulary.{CommandForm, Remainder}
use Rattle.check_command.specs.Vocabulary.{certificate_refusal, on_certificate, left_on_certificate}
use Rattle.steps_command.specs.Right.{IsForCertificate}
use Rattle.steps_command.specs.Telling.{steps_telling}

-- its request and its answers
abbrev pub steps_command : CommandForm
steps_command = on_certificate steps_telling certificate_refusal IsForCertificate

-- what is left on a diagram once the experiments were found: the certificate
abbrev pub steps_left : Format → Diagram → List ℕ → Text → Remainder
steps_left = left_on_certificate steps_telling certificate_refusal IsForCertificate
