-- The command `check`, of certificates in parts too.
use Rattle.std.specs.Prelude.{ℕ, List}
use Rattle.command_words.specs.Vocabulary.{Text}
use Rattle.diagram.specs.declared.diagram.Diagram.{Diagram}
use Rattle.replies.specs.declared.format.Format.{Format}
use Rattle.replies.specs.Vocabulary.{CommandForm, Remainder}
use Rattle.check_command.specs.Vocabulary.{on_certificate, left_on_certificate}
use Rattle.part_check_command.specs.Faults.{part_check_refusal}
use Rattle.part_check_command.specs.Right.{IsForCertificate}
use Rattle.part_check_command.specs.Telling.{part_check_telling}

-- its request and its answers
abbrev pub part_check_command : CommandForm
part_check_command = on_certificate part_check_telling part_check_refusal IsForCertificate

-- what is left on a diagram once the experiments were found: the certificate
abbrev pub part_check_left : Format → Diagram → List ℕ → Text → Remainder
part_check_left = left_on_certificate part_check_telling part_check_refusal IsForCertificate
