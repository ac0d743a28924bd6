use Rattle.check_command.specs.Vocabulary.{certificate_refusal}
use Rattle.check_command.specs.declared.fault.CertificateFault.TheVariants.{TooLong}
use Rattle.check_command.proofs.Replied.{long_told}
use Rattle.steps_command.specs.Right.{IsForCertificate}
use Rattle.steps_command.specs.Telling.{steps_telling}
use Rattle.steps_command.proofs.reply.long_certificate.Goals as goal

pub returns : goal.returns
returns c = long_told steps_telling certificate_refusal IsForCertificate TooLong (λ q names zs bytes long. long) c.refuse.result
    c.refuse.ensures.outcome c.refuse.ensures.told
