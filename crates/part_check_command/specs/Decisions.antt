-- What the parts of a check decide. Words for code inside this crate.
use Rattle.std.specs.Prelude.{ℕ, ◌≡◌, Bool, true, false, List, Err}
use Rattle.mixed_graph.specs.Vocabulary.{MixedGraph}
use Rattle.prob_expr.specs.Vocabulary.{PlainTarget}
use Rattle.derived_parts.specs.Vocabulary.{PlainDerivedPart}
use Rattle.certificate.specs.declared.fault.CertFault.{CertFault}
use Rattle.certificate.specs.declared.fault.CertFault.TheVariants as certificates
use Rattle.certificate.specs.Vocabulary.{certificate_in}
use Rattle.check_command.specs.declared.fault.CertificateFault.{CertificateFault}
use Rattle.check_command.specs.declared.fault.CertificateFault.TheVariants.{TooLong, Faulty, NoMemory}
use Rattle.check_command.specs.Vocabulary.{IsCertificateFault as IsWholeFault, certificate_refusal}
use Rattle.natural_command.specs.Vocabulary.{IsFaultOfQuestion}
use Rattle.treated_command.specs.Vocabulary.{IsFaultOfSets}
use Rattle.part_check_command.specs.Faults.{is_memory}
use Rattle.part_check_command.specs.Right.{IsAcceptedAmong, IsAcceptedNested, IsRefusedAmong, IsRefusedNested, question_of, sets_of}
use Rattle.part_check_command.specs.declared.answer.Answer.{Answer}
use Rattle.part_check_command.specs.declared.answer.Answer.TheVariants.{Whole, Treated, Natural, RefusedTreated, RefusedNatural}
use Rattle.part_check_command.specs.declared.fault.Fault.{Fault}
use Rattle.part_check_command.specs.declared.fault.Fault.TheVariants as faults

-- the answer for the parts of an effect among the treated
abbrev pub DecidesAmong : MixedGraph → PlainTarget → List PlainDerivedPart → Answer → Type 0
DecidesAmong q t ps (Whole a) = ⊥
DecidesAmong q t ps (Treated a f) = IsAcceptedAmong q t ps a f
DecidesAmong q t ps (Natural a f) = ⊥
DecidesAmong q t ps (RefusedTreated why lemmas) = IsRefusedAmong q t ps why lemmas
DecidesAmong q t ps (RefusedNatural why lemmas) = ⊥

-- and for those of a nested effect
abbrev pub DecidesNested : MixedGraph → PlainTarget → (m : ℕ) → List PlainDerivedPart → Answer → Type 0
DecidesNested q t m ps (Whole a) = ⊥
DecidesNested q t m ps (Treated a f) = ⊥
DecidesNested q t m ps (Natural a f) = IsAcceptedNested q t m ps a f
DecidesNested q t m ps (RefusedTreated why lemmas) = ⊥
DecidesNested q t m ps (RefusedNatural why lemmas) = IsRefusedNested q t m ps why lemmas

-- why the effect among the treated can't be asked for
abbrev pub IsFaultAmong : MixedGraph → List (List ℕ) → PlainTarget → Fault → Type 0
IsFaultAmong q names t (faults.Certificate fault) = ⊥
IsFaultAmong q names t (faults.Treated fault) = IsFaultOfSets q names (sets_of t) fault
IsFaultAmong q names t (faults.Natural fault) = ⊥

-- and why the nested effect can't be
abbrev pub IsFaultNested : MixedGraph → List (List ℕ) → PlainTarget → (m : ℕ) → Fault → Type 0
IsFaultNested q names t m (faults.Certificate fault) = ⊥
IsFaultNested q names t m (faults.Treated fault) = ⊥
IsFaultNested q names t m (faults.Natural fault) = IsFaultOfQuestion q names (question_of t m) fault

-- the fault is this, unless memory was refused
abbrev pub UnlessWanting : (Fault → Type 0) → Fault → Type 0
UnlessWanting is fault = is_memory fault ≡ false → is fault

-- ---- versions

-- the version of a text is another one than that of each certificate that is read
abbrev pub is_version : CertFault → Bool
is_version (certificates.Version version) = true
is_version fault = false

-- the same of a certificate
abbrev pub is_of_other_version : CertificateFault → Bool
is_of_other_version TooLong = false
is_of_other_version (Faulty fault) = is_version fault
is_of_other_version NoMemory = false

-- the text is a certificate neither of version 1 nor of version 2, but it has another version
pub record IsOfOtherVersion (names : List (List ℕ)) (bytes : List ℕ) : Type 0 where
  pub version : ℕ
  pub unread : certificate_in names bytes ≡ Err (certificates.Version version)

-- `check_command` doesn't read the bytes by this fault, unless memory was refused
abbrev pub IsUnreadWhole : (names : List (List ℕ)) → (bytes : List ℕ) → CertificateFault → Type 0
IsUnreadWhole names bytes fault = certificate_refusal.is_memory fault ≡ false → IsWholeFault names bytes fault
