-- The objects of the faults of certificates.
use Rattle.std.specs.Prelude.{ℕ, List, codes}
use Rattle.std.specs.Fmt.{decimal}
use Rattle.json.specs.Json.{Json, null}
use Rattle.answer_json.specs.Vocabulary.{bare_fault_json, text_fault_json}
use Rattle.certificate.specs.declared.fault.Key.{Key}
use Rattle.certificate.specs.declared.fault.Key.TheVariants.{Extra}
use Rattle.certificate.specs.declared.fault.CertFault.{CertFault}
use Rattle.certificate.specs.declared.fault.CertFault.TheVariants.{NotJson, Member, Version, TooDeep, Name, NoMemory}
use Rattle.certificate.specs.Vocabulary.{key_text}

-- the stage of these faults
abbrev pub stage : List ℕ
stage = codes "certificate"

-- what is wrong with a key, in words
unfoldable pub key_message : Key → List ℕ
key_message Extra = codes "there is a further key"
key_message key = codes "the value of this key is missing or has another form"

-- a fault of a certificate; want of memory has none
abbrev pub certificate_fault_json : CertFault → Json
certificate_fault_json NotJson = bare_fault_json stage 1 (codes "the text is no JSON, or it nests too deep")
certificate_fault_json (Member key) = text_fault_json stage 2 (key_message key) (codes "key") (key_text key)
certificate_fault_json (Version n) = text_fault_json stage 3 (codes "this version is not read") (codes "version") (decimal n)
certificate_fault_json TooDeep = bare_fault_json stage 4 (codes "steps nest more than 60 deep")
certificate_fault_json (Name name) = text_fault_json stage 5 (codes "the name is not that of an observed vertex") (codes "name") name
certificate_fault_json NoMemory = null

-- a certificate of more than 67,108,864 bytes
abbrev pub certificate_size_json : Json
certificate_size_json = bare_fault_json stage 6 (codes "the text has more than 67108864 bytes")
