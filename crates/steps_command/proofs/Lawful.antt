-- The command's right answers end alike.
use Rattle.std.proofs.Common.{◌≡◌, ℕ, List, Result, sym, ◌∙◌}
use Rattle.mixed_graph.specs.Vocabulary.{MixedGraph}
use Rattle.replies.specs.Vocabulary.{IsAnswered}
use Rattle.replies.proofs.Commands.{IsLawful}
use Rattle.told.specs.Vocabulary.{outcome_in}
use Rattle.check_command.specs.Vocabulary.{certificate_refusal}
use Rattle.check_command.specs.declared.fault.CertificateFault.{CertificateFault}
use Rattle.check_command.proofs.Exclusive.{certificate_alike}
use Rattle.check_command.proofs.Lawful.{lawful_on_certificate}
use Rattle.check_command.proofs.Lawful as checks
use Rattle.steps_command.specs.Command.{steps_command}
use Rattle.steps_command.specs.Right.{IsForCertificate}
use Rattle.steps_command.specs.Telling.{steps_telling}
use Rattle.steps_command.specs.declared.answer.Answer.{Answer}
use Rattle.steps_command.specs.declared.answer.Answer.TheVariants.{Explained, Checked}
use Rattle.steps_command.proofs.Checking.{lowered, lowered_right, lowered_ends}

answered : (a : Answer) → IsAnswered (steps_telling.outcome a)
answered (Explained f parts) = tt
answered (Checked a) = checks.answered a

-- right answers on a certificate end as those of `check`
alike : (q : MixedGraph) (names : List (List ℕ)) (zs bytes : List ℕ) (a b : Result Answer CertificateFault) → IsForCertificate q names zs bytes a
    → IsForCertificate q names zs bytes b → outcome_in steps_telling certificate_refusal a ≡ outcome_in steps_telling certificate_refusal b
alike q names zs bytes a b x y =
    lowered_ends a
    ∙ certificate_alike q names zs bytes (lowered a) (lowered b) (lowered_right q names zs bytes a x) (lowered_right q names zs bytes b y)
    ∙ sym (lowered_ends b)

-- what holds of each command holds of it
pub steps_lawful : IsLawful steps_command
steps_lawful = lawful_on_certificate steps_telling certificate_refusal IsForCertificate alike answered (λ fault. tt)
