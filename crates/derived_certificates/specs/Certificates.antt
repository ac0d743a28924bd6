-- Certificates of counterfactual effects in parts: they are accepted, and read back.
use Rattle.std.specs.Prelude.{ℕ, ◌≡◌, ◌<◌, List, length, Ok}
use Rattle.mixed_graph.specs.Vocabulary.{AreNames, MixedGraph}
use Rattle.derived_parts.specs.Vocabulary.{PlainDerivedPart}
use Rattle.certificate.specs.Vocabulary.{PlainPartCertificate, treated, natural, part_certificate_in}
use Rattle.certificate_json.specs.Vocabulary.{part_certificate_text}
use Rattle.part_checks.specs.Vocabulary.{AreAcceptedAmong, AreNaturallyAccepted}

-- the certificate is read back as it was written, by any names of that many vertices
abbrev pub IsPartReadBack : (vertices : ℕ) → PlainPartCertificate → Type 0
IsPartReadBack n c = (names : List (List ℕ)) → AreNames names → length names ≡ n → part_certificate_in names (part_certificate_text names c) ≡ Ok c

-- it is that of P(y under do(x) | x and z as observed) in g: its parts are accepted, and it is read back where x isn't empty
pub record IsTreatedCertificate (g : MixedGraph) (x y z : ℕ) (c : PlainPartCertificate) : Type 0 where
  pub parts : List PlainDerivedPart
  pub is : c ≡ treated (record { x = x; y = y; given = z }) parts
  pub accepted : AreAcceptedAmong g x y z parts
  pub reads_back : 0 < x → IsPartReadBack g.vertices c

-- it is that of P(y[x, m[x']] | z) in g: its parts are accepted, and it is read back
pub record IsNaturalCertificate (g : MixedGraph) (x m y z : ℕ) (c : PlainPartCertificate) : Type 0 where
  pub parts : List PlainDerivedPart
  pub is : c ≡ natural (record { x = x; y = y; given = z }) m parts
  pub accepted : AreNaturallyAccepted g x y z parts
  pub reads_back : IsPartReadBack g.vertices c
