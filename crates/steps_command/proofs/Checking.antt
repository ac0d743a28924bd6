-- What is told on a certificate is what `check` tells, but of an accepted formula.
use Rattle.std.proofs.Common.{◌≡◌, ℕ, List, Result, Ok, Err, refl}
use Rattle.mixed_graph.specs.Vocabulary.{MixedGraph}
use Rattle.told.specs.Vocabulary.{outcome_in}
use Rattle.check_command.specs.Vocabulary.{IsForCertificate as IsCheckFor, certificate_refusal, check_telling}
use Rattle.check_command.specs.declared.answer.Answer.{Answer as CheckAnswer}
use Rattle.check_command.specs.declared.fault.CertificateFault.{CertificateFault}
use Rattle.steps_command.specs.Right.{IsForCertificate, checked_of}
use Rattle.steps_command.specs.Telling.{outcome_of, steps_telling}
use Rattle.steps_command.specs.declared.answer.Answer.{Answer}
use Rattle.steps_command.specs.declared.answer.Answer.TheVariants.{Explained, Checked}

-- the answer of `check` of which this one tells, or the same fault
abbrev pub lowered : Result Answer CertificateFault → Result CheckAnswer CertificateFault
lowered (Ok a) = Ok (checked_of a)
lowered (Err fault) = Err fault

-- it is right
pub lowered_right : (q : MixedGraph) (names : List (List ℕ)) (zs bytes : List ℕ) (r : Result Answer CertificateFault)
    → IsForCertificate q names zs bytes r → IsCheckFor q names zs bytes (lowered r)
lowered_right q names zs bytes (Ok a) h = h.checked
lowered_right q names zs bytes (Err fault) h = h

-- and ends alike
pub lowered_answer : (a : Answer) → outcome_of a ≡ check_telling.outcome (checked_of a)
lowered_answer (Explained f parts) = refl
lowered_answer (Checked a) = refl

pub lowered_ends : (r : Result Answer CertificateFault)
    → outcome_in steps_telling certificate_refusal r ≡ outcome_in check_telling certificate_refusal (lowered r)
lowered_ends (Ok a) = lowered_answer a
lowered_ends (Err fault) = refl
