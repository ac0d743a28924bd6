use Rattle.check_command.specs.declared.fault.CertificateFault.TheVariants.{TooLong}
use Rattle.check_command.proofs.Replied.{long_told}
use Rattle.part_check_command.specs.Faults.{part_check_refusal}
use Rattle.part_check_command.specs.Right.{IsForCertificate}
use Rattle.part_check_command.specs.Telling.{part_check_telling}
use Rattle.part_check_command.specs.declared.fault.Fault.TheVariants.{Certificate}
use Rattle.part_check_command.proofs.reply.long_certificate.Goals as goal

pub returns : goal.returns
returns c = long_told part_check_telling part_check_refusal IsForCertificate (Certificate TooLong) (λ q names zs bytes long. long) c.refuse.result
    c.refuse.ensures.outcome c.refuse.ensures.told
