-- What other crates cite of this one, from one place.
pub use Rattle.check_command.specs.CertificateFaults.{certificate_refusal, is_memory}
pub use Rattle.check_command.specs.Command.{on_certificate, left_on_certificate}
pub use Rattle.check_command.specs.Firsts.{IsAcceptance}
pub use Rattle.check_command.specs.Refusals.{cert_fault_told, cert_size_told}
pub use Rattle.check_command.specs.Replies.{IsSoundDerivation, IsSoundTarget}
pub use Rattle.check_command.specs.Requests.{Request, IsRequest, certificate_row, check_row, request_of}
pub use Rattle.check_command.specs.Right.{AreExperimentsOn, HoldsCertificate, IsAcceptedFormula, IsCertificateFault, IsForCertificate, IsForFirst, IsForText, of_formula, of_hedge}
pub use Rattle.check_command.specs.Telling.{check_telling}
