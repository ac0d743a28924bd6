-- What is wrong with a certificate, in words.
use Rattle.std.specs.Prelude.{ℕ, List, [], ◌++◌, codes}
use Rattle.std.specs.Fmt.{decimal}
use Rattle.answer_text.specs.Vocabulary.{printed}
use Rattle.certificate.specs.declared.fault.Key.{Key}
use Rattle.certificate.specs.declared.fault.Key.TheVariants as key
use Rattle.certificate.specs.declared.fault.CertFault.{CertFault}
use Rattle.certificate.specs.declared.fault.CertFault.TheVariants.{NotJson, Member, Version, TooDeep, Name, NoMemory}

-- a key of certificates
abbrev pub key_text : Key → List ℕ
key_text key.Answer = codes "answer"
key_text key.Version = codes "version"
key_text key.X = codes "x"
key_text key.Y = codes "y"
key_text key.Given = codes "given"
key_text key.Formula = codes "formula"
key_text key.Defs = codes "defs"
key_text key.Lemmas = codes "lemmas"
key_text key.Main = codes "main"
key_text key.Big = codes "big"
key_text key.Small = codes "small"
key_text key.Roots = codes "roots"
key_text key.Choice = codes "choice"
key_text key.Links = codes "links"
key_text key.Extra = codes "extra"
key_text key.Parts = codes "parts"
key_text key.Through = codes "through"
key_text key.District = codes "district"

-- the text of a fault; want of memory has none
abbrev pub cert_fault_text : CertFault → List ℕ
cert_fault_text NotJson = codes "certificate fault 1"
cert_fault_text (Member k) = codes "certificate fault 2: " ++ key_text k
cert_fault_text (Version n) = codes "certificate fault 3: " ++ decimal n
cert_fault_text TooDeep = codes "certificate fault 4"
cert_fault_text (Name name) = codes "certificate fault 5: " ++ printed name
cert_fault_text NoMemory = []

-- the text of what is wrong with more than 67,108,864 bytes
abbrev pub cert_size_text : List ℕ
cert_size_text = codes "certificate fault 6: over 67108864 bytes"
