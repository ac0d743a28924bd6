-- What is told of what is wrong with a certificate.
use Rattle.std.specs.Prelude.{Bool, true, false, []}
use Rattle.certificate.specs.declared.fault.CertFault.TheVariants as certificates
use Rattle.replies.specs.Told.{Told}
use Rattle.replies.specs.declared.outcome.Outcome.TheVariants.{Second}
use Rattle.replies.specs.Vocabulary.{refusal_of}
use Rattle.told.specs.Vocabulary.{Refusal}
use Rattle.check_command.specs.Refusals.{cert_size_told, cert_fault_told}
use Rattle.check_command.specs.declared.fault.CertificateFault.{CertificateFault}
use Rattle.check_command.specs.declared.fault.CertificateFault.TheVariants.{TooLong, Faulty, NoMemory}

-- want of memory is one of the faults
abbrev pub is_memory : CertificateFault → Bool
is_memory TooLong = false
is_memory (Faulty certificates.NoMemory) = true
is_memory (Faulty fault) = false
is_memory NoMemory = true

-- the line and the object of the others
abbrev pub fault_told : CertificateFault → Told
fault_told TooLong = cert_size_told
fault_told (Faulty fault) = cert_fault_told fault
fault_told NoMemory = refusal_of [] []

-- the refusal of a certificate
abbrev pub certificate_refusal : Refusal CertificateFault
certificate_refusal = record { outcome = λ fault. Second; told = fault_told; is_memory = is_memory }
