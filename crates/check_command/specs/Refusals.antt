-- What is told of a certificate that isn't read.
use Rattle.answer_text.specs.Vocabulary.{line_of}
use Rattle.answer_json.specs.Vocabulary.{json_line}
use Rattle.certificate.specs.declared.fault.CertFault.{CertFault}
use Rattle.certificate.specs.Vocabulary.{cert_fault_text, cert_size_text}
use Rattle.check_json.specs.Vocabulary.{certificate_fault_json, certificate_size_json}
use Rattle.replies.specs.Told.{Told}
use Rattle.replies.specs.Vocabulary.{refusal_of}

-- it has more than 67,108,864 bytes
abbrev pub cert_size_told : Told
cert_size_told = refusal_of (line_of cert_size_text) (json_line certificate_size_json)

-- its text has a fault
abbrev pub cert_fault_told : CertFault → Told
cert_fault_told fault = refusal_of (line_of (cert_fault_text fault)) (json_line (certificate_fault_json fault))
