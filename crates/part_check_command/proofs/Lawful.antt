-- The command's right answers end alike.
use Rattle.replies.specs.Vocabulary.{IsAnswered}
use Rattle.replies.proofs.Commands.{IsLawful}
use Rattle.check_command.proofs.Lawful.{lawful_on_certificate}
use Rattle.check_command.proofs.Lawful as checks
use Rattle.part_check_command.specs.Command.{part_check_command}
use Rattle.part_check_command.specs.Faults.{part_check_refusal}
use Rattle.part_check_command.specs.Right.{IsForCertificate}
use Rattle.part_check_command.specs.Telling.{part_check_telling}
use Rattle.part_check_command.specs.declared.answer.Answer.{Answer}
use Rattle.part_check_command.specs.declared.answer.Answer.TheVariants.{Whole, Treated, Natural, RefusedTreated, RefusedNatural}
use Rattle.part_check_command.specs.declared.fault.Fault.{Fault}
use Rattle.part_check_command.specs.declared.fault.Fault.TheVariants as faults
use Rattle.part_check_command.proofs.Exclusive.{parts_alike}

answered : (a : Answer) → IsAnswered (part_check_telling.outcome a)
answered (Whole a) = checks.answered a
answered (Treated a f) = tt
answered (Natural a f) = tt
answered (RefusedTreated fault lemmas) = tt
answered (RefusedNatural fault lemmas) = tt

refused : (f : Fault) → IsAnswered (part_check_refusal.outcome f)
refused (faults.Certificate f) = tt
refused (faults.Treated f) = tt
refused (faults.Natural f) = tt

-- what holds of each command holds of it
pub part_check_lawful : IsLawful part_check_command
part_check_lawful = lawful_on_certificate part_check_telling part_check_refusal IsForCertificate parts_alike answered refused
