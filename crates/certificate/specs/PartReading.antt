-- Reading a certificate in parts: the keys in their order, each with what it has to be, and the first fault.
use Rattle.std.specs.Prelude.{ℕ, ◌==◌, List, [], ◌∷◌, ◌++◌, Result, Ok, Err, if◌then◌else◌, codes}
use Rattle.mixed_graph.specs.Vocabulary.{union}
use Rattle.prob_expr.specs.Vocabulary.{PlainTarget}
use Rattle.serde_json.specs.Data.{Data, Items, no_items, item}
use Rattle.serde_json.specs.Find.{get, as_array, as_object}
use Rattle.step_json.specs.Vocabulary.{set_in, filled_set_in}
use Rattle.derived_parts.specs.Vocabulary.{PlainDerivedPart}
use Rattle.certificate.specs.declared.fault.Key.TheVariants as keys
use Rattle.certificate.specs.declared.fault.CertFault.{CertFault}
use Rattle.certificate.specs.declared.fault.CertFault.TheVariants.{NotJson, Member, Version}
use Rattle.certificate.specs.Faults.{◌>>=◌, or_fault}
use Rattle.certificate.specs.Plain.{PlainPartCertificate, treated, natural}
use Rattle.certificate.specs.Reading.{member_by, formula_in, derivation_in, member_count, is_answer, version_in, json_of}

-- a part: its district, its formula and its derivation, and no further key
unfoldable pub part_in : List (List ℕ) → Data → Result PlainDerivedPart CertFault
part_in names d = do
  district ← member_by keys.District (codes "district") (filled_set_in names 0) d
  f ← formula_in names d
  p ← derivation_in names d
  if member_count (as_object d) == 5 then Ok (record { district = district; formula = f; derivation = p }) else Err (Member keys.Extra)

-- parts behind those before
abbrev pub more_parts : List (List ℕ) → List PlainDerivedPart → Items → Result (List PlainDerivedPart) CertFault
more_parts names before no_items = Ok before
more_parts names before (item d ds) = part_in names d >>= λ p. more_parts names (before ++ p ∷ []) ds

-- a list of parts
abbrev pub part_list_in : List (List ℕ) → Data → Result (List PlainDerivedPart) CertFault
part_list_in names d = or_fault (Member keys.Parts) (as_array d) >>= more_parts names []

-- the parts
abbrev pub parts_in : List (List ℕ) → Data → Result (List PlainDerivedPart) CertFault
parts_in names d = or_fault (Member keys.Parts) (get (codes "parts") d) >>= part_list_in names

-- the sets of an effect, no two of which meet; x and y aren't empty
unfoldable pub part_target_in : List (List ℕ) → Data → Result PlainTarget CertFault
part_target_in names d = do
  x ← member_by keys.X (codes "x") (filled_set_in names 0) d
  y ← member_by keys.Y (codes "y") (filled_set_in names x) d
  given ← member_by keys.Given (codes "given") (set_in names (union x y)) d
  Ok (record { x = x; y = y; given = given })

-- the certificate of an effect among the treated: its six keys, and no further one
unfoldable pub treated_certificate_in : List (List ℕ) → Data → Result PlainPartCertificate CertFault
treated_certificate_in names d = do
  t ← part_target_in names d
  ps ← parts_in names d
  if member_count (as_object d) == 6 then Ok (treated t ps) else Err (Member keys.Extra)

-- the certificate of a nested effect: its seven keys, and no further one
unfoldable pub natural_certificate_in : List (List ℕ) → Data → Result PlainPartCertificate CertFault
natural_certificate_in names d = do
  t ← part_target_in names d
  m ← member_by keys.Through (codes "through") (filled_set_in names (union (union t.x t.y) t.given)) d
  ps ← parts_in names d
  if member_count (as_object d) == 7 then Ok (natural t m ps) else Err (Member keys.Extra)

-- the answer says which certificate it is
abbrev pub part_answer_in : List (List ℕ) → Data → Result PlainPartCertificate CertFault
part_answer_in names d =
    if is_answer (codes "treated") d then treated_certificate_in names d
    else (if is_answer (codes "natural") d then natural_certificate_in names d
    else Err (Member keys.Answer))

-- a value of version 3
unfoldable pub part_value_certificate : List (List ℕ) → Data → Result PlainPartCertificate CertFault
part_value_certificate names d = do
  version ← version_in d
  if version == 3 then part_answer_in names d else Err (Version version)

-- the certificate in parts that a text is, or its first fault
unfoldable pub part_certificate_in : List (List ℕ) → List ℕ → Result PlainPartCertificate CertFault
part_certificate_in names text = or_fault NotJson (json_of text) >>= part_value_certificate names
