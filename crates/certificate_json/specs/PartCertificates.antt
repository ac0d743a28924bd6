-- Certificates in parts as JSON, which of them are read again, and what the types of the code keep of each.
use Rattle.std.specs.Prelude.{◌≡◌, ℕ, Bool, true, not, ◌&&◌, List, [], ◌∷◌, length, map, codes, decimal, None, Ok}
use Rattle.json.specs.Json.{Json, string, number}
use Rattle.json.specs.Print.{print}
use Rattle.json.specs.Tree.{json_tokens}
use Rattle.mixed_graph.specs.Vocabulary.{AreNames, is_below, is_apart, is_empty, union}
use Rattle.prob_expr.specs.Vocabulary.{PlainTarget, fault_in}
use Rattle.derived_parts.specs.Vocabulary.{PlainDerivedPart}
use Rattle.certificate.specs.Vocabulary.{PlainPartCertificate, treated, natural, part_certificate_in}
use Rattle.answer_json.specs.Vocabulary.{array_of, object_of, set_json, json_line}
use Rattle.certificate_json.specs.StepSizes as step
use Rattle.certificate_json.specs.Kept.{are_steps_short}
use Rattle.certificate_json.specs.Writable.{IsDerivationWithin, IsFormulaShallow, IsTargetWithin}
use Rattle.certificate_json.specs.Certificates.{expr_json, derivation_members}

-- the members of a part, sorted by key
abbrev pub part_members : List (List ℕ) → PlainDerivedPart → List (List ℕ × Json)
part_members names p =
    (codes "defs", array_of (map (expr_json names) p.formula.defs))
    ∷ (codes "district", set_json names p.district)
    ∷ (codes "formula", expr_json names p.formula.main)
    ∷ derivation_members names p.derivation

-- a part
abbrev pub part_json : List (List ℕ) → PlainDerivedPart → Json
part_json names p = object_of (part_members names p)

-- the members from `version` on
abbrev pub part_target_members : List (List ℕ) → PlainTarget → List (List ℕ × Json)
part_target_members names t = (codes "version", number (decimal 3)) ∷ (codes "x", set_json names t.x) ∷ (codes "y", set_json names t.y) ∷ []

-- the members of a certificate in parts, sorted by key
abbrev pub part_certificate_members : List (List ℕ) → PlainPartCertificate → List (List ℕ × Json)
part_certificate_members names (treated t ps) =
    (codes "answer", string (codes "treated"))
    ∷ (codes "given", set_json names t.given)
    ∷ (codes "parts", array_of (map (part_json names) ps))
    ∷ part_target_members names t
part_certificate_members names (natural t m ps) =
    (codes "answer", string (codes "natural"))
    ∷ (codes "given", set_json names t.given)
    ∷ (codes "parts", array_of (map (part_json names) ps))
    ∷ (codes "through", set_json names m)
    ∷ part_target_members names t

-- a certificate in parts
abbrev pub part_certificate_json : List (List ℕ) → PlainPartCertificate → Json
part_certificate_json names c = object_of (part_certificate_members names c)

-- its text: in compact form, with no line feed at the end
abbrev pub part_certificate_text : List (List ℕ) → PlainPartCertificate → List ℕ
part_certificate_text names c = print (json_tokens (part_certificate_json names c))

-- it on a line of its own
abbrev pub part_certificate_line : List (List ℕ) → PlainPartCertificate → List ℕ
part_certificate_line names c = json_line (part_certificate_json names c)

-- ---- what is read again

-- the district is below n and not empty, the formula has no fault, and each set and vertex of the derivation is below n
pub record IsPartWithin (n : ℕ) (p : PlainDerivedPart) : Type 0 where
  pub district : is_below n p.district ≡ true
  pub some : not (is_empty p.district) ≡ true
  pub formed : fault_in n p.formula ≡ None
  pub derivation : IsDerivationWithin n p.derivation

-- and so it is with each
abbrev pub ArePartsWithin : ℕ → List PlainDerivedPart → Type 0
ArePartsWithin n [] = Unit {0}
ArePartsWithin n (p ∷ ps) = IsPartWithin n p × ArePartsWithin n ps

-- the sets are those of a target, and x isn't empty
pub record IsPartTarget (n : ℕ) (t : PlainTarget) : Type 0 where
  pub sets : IsTargetWithin n t
  pub some : not (is_empty t.x) ≡ true

-- what is written, for n names
abbrev pub IsPartWritable : ℕ → PlainPartCertificate → Type 0
IsPartWritable n (treated t ps) = IsPartTarget n t × ArePartsWithin n ps
IsPartWritable n (natural t m ps) =
    IsPartTarget n t × (is_below n m ≡ true) × (is_apart (union (union t.x t.y) t.given) m ≡ true) × (not (is_empty m) ≡ true) × ArePartsWithin n ps

-- the steps and the formula of each part nest at most 60 deep
abbrev pub ArePartsShallow : List PlainDerivedPart → Type 0
ArePartsShallow [] = Unit {0}
ArePartsShallow (p ∷ ps) = IsFormulaShallow p.formula p.derivation × ArePartsShallow ps

-- those of a certificate
abbrev pub parts_of : PlainPartCertificate → List PlainDerivedPart
parts_of (treated t ps) = ps
parts_of (natural t m ps) = ps

-- the numbers of a part's steps have 32 bits, and its orders 64 vertices at most
abbrev pub is_part_short : PlainDerivedPart → Bool
is_part_short p = are_steps_short p.derivation.lemmas && step.is_short p.derivation.main

-- and so it is with each
abbrev pub are_parts_short : List PlainDerivedPart → Bool
are_parts_short [] = true
are_parts_short (p ∷ ps) = is_part_short p && are_parts_short ps

-- a certificate in parts is read again as a text
abbrev pub PartTextReadsBack : Type 0
PartTextReadsBack = (names : List (List ℕ)) (c : PlainPartCertificate) → AreNames names → IsPartWritable (length names) c → are_parts_short (parts_of c) ≡ true
    → ArePartsShallow (parts_of c) → part_certificate_in names (part_certificate_text names c) ≡ Ok c
