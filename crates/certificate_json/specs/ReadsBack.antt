-- What is written for sets, steps and certificates is read again: alone as a text, and as a value inside another.
use Rattle.std.specs.Prelude.{◌≡◌, ℕ, ◌≤◌, true, List, [], ◌∷◌, ◌++◌, length, Some, option_map, Result, Ok}
use Rattle.json.specs.Json.{Json}
use Rattle.mixed_graph.specs.Vocabulary.{AreNames, is_below, is_apart}
use Rattle.do_derivation.specs.Plans.{Plan}
use Rattle.serde_json.specs.Data.{Data}
use Rattle.serde_json.specs.Find.{get}
use Rattle.serde_json.specs.Read.{of_json}
use Rattle.step_json.specs.Reading as value
use Rattle.step_json.specs.declared.fault.ValueFault.{ValueFault}
use Rattle.step_json.specs.Vocabulary.{or_form, set_in, step_in}
use Rattle.certificate_json.specs.StepSizes.{is_within, is_short, nesting}
use Rattle.certificate.specs.declared.fault.CertFault.{CertFault}
use Rattle.certificate.specs.declared.fault.CertFault.TheVariants.{NotJson}
use Rattle.certificate.specs.Vocabulary.{◌>>=◌, or_fault, PlainCertificate, value_certificate, certificate_in}
use Rattle.answer_json.specs.Vocabulary.{object_of, set_json}
use Rattle.certificate_json.specs.Steps.{step_json}
use Rattle.certificate_json.specs.Certificates.{certificate_json, certificate_text}
use Rattle.certificate_json.specs.Kept.{IsRepresentable}
use Rattle.certificate_json.specs.Writable.{IsWritable, IsShallow}

-- what f reads from a value
abbrev pub read_by : {A : Type 0} → (Data → Result A ValueFault) → Json → Result A ValueFault
read_by f j = value.◌>>=◌ (or_form (of_json j)) f

-- the certificate that a value is, or its first fault
abbrev pub certificate_of : List (List ℕ) → Json → Result PlainCertificate CertFault
certificate_of names j = or_fault NotJson (of_json j) >>= value_certificate names

-- a set is read again
abbrev pub SetReadsBack : Type 0
SetReadsBack = (names : List (List ℕ)) (barred set : ℕ) → AreNames names → is_below (length names) set ≡ true → is_apart barred set ≡ true
    → read_by (set_in names barred) (set_json names set) ≡ Ok set

-- a step is read again
abbrev pub StepReadsBack : Type 0
StepReadsBack = (names : List (List ℕ)) (p : Plan) → AreNames names → is_within (length names) p ≡ true → is_short p ≡ true → nesting p ≤ 60
    → read_by (step_in names) (step_json names p) ≡ Ok p

-- a certificate is read again as a value, wherever that stands
abbrev pub ValueReadsBack : Type 0
ValueReadsBack = (names : List (List ℕ)) (c : PlainCertificate) → AreNames names → IsWritable (length names) c → IsRepresentable c → IsShallow c
    → certificate_of names (certificate_json names c) ≡ Ok c

-- so it is as the last member of an object
abbrev pub MemberReadsBack : Type 0
MemberReadsBack = (names : List (List ℕ)) (c : PlainCertificate) (before : List (List ℕ × Json)) (name : List ℕ) (d : Data) → AreNames names
    → IsWritable (length names) c → IsRepresentable c → IsShallow c
    → of_json (object_of (before ++ (name, certificate_json names c) ∷ [])) ≡ Some d
    → option_map (value_certificate names) (get name d) ≡ Some (Ok c)

-- and as a text
abbrev pub TextReadsBack : Type 0
TextReadsBack = (names : List (List ℕ)) (c : PlainCertificate) → AreNames names → IsWritable (length names) c → IsRepresentable c → IsShallow c
    → certificate_in names (certificate_text names c) ≡ Ok c
