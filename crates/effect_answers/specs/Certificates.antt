-- Certificates of answers: as text, as a member of an object, and that they are read back.
use Rattle.std.specs.Prelude.{ℕ, ◌≡◌, List, [], ◌∷◌, Option, Some, None, length, Ok, codes, if◌then◌else◌}
use Rattle.json.specs.Json.{Json}
use Rattle.mixed_graph.specs.Vocabulary.{AreNames}
use Rattle.certificate.specs.Vocabulary.{PlainCertificate, certificate_in}
use Rattle.certificate_json.specs.Vocabulary.{certificate_json, certificate_text, certificate_line}
use Rattle.told.specs.declared.form.Writing.{Writing}
use Rattle.told.specs.Vocabulary.{is_certified}

-- the line of a certificate, where there is one; else this text
abbrev pub line_or : List (List ℕ) → Option PlainCertificate → (text : List ℕ) → List ℕ
line_or names (Some c) text = certificate_line names c
line_or names None text = text

-- the member of a certificate, where there is one
abbrev pub member_of : List (List ℕ) → Option PlainCertificate → List (List ℕ × Json)
member_of names (Some c) = (codes "certificate", certificate_json names c) ∷ []
member_of names None = []

-- the same, where a certificate is asked for
abbrev pub member_in : Writing → List (List ℕ) → Option PlainCertificate → List (List ℕ × Json)
member_in w names c = if is_certified w then member_of names c else []

-- the certificate is read back as it was written, by any names of that many vertices
abbrev pub IsReadBack : (vertices : ℕ) → PlainCertificate → Type 0
IsReadBack n c = (names : List (List ℕ)) → AreNames names → length names ≡ n → certificate_in names (certificate_text names c) ≡ Ok c
