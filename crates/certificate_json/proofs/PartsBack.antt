-- What is written for a certificate in parts is read again.
use Rattle.std.proofs.Common.{◌≡◌, ◌==◌, ℕ, true, cond, List, [], ◌∷◌, ◌++◌, length, map, codes, Some, Result, Ok, Err, IfOk, refl, sym, ap, ◌∙◌}
use Rattle.std.proofs.Common.{arith, append_assoc, append-nil}
use Rattle.json.proofs.Printed.Utf8.{IsUtf8-are_ascii}
use Rattle.mixed_graph.specs.Vocabulary.{AreNames, union}
use Rattle.prob_expr.specs.Vocabulary.{PlainTarget}
use Rattle.expr_text.specs.Vocabulary.{text_of}
use Rattle.expr_text.proofs.Within.{and_true}
use Rattle.serde_json.specs.Data.{Data, Items, string, number, unsigned, array, object, no_items, item, no_members, member}
use Rattle.serde_json.specs.Find.{get, as_object}
use Rattle.step_json.specs.Vocabulary.{filled_set_in, set_in}
use Rattle.derived_parts.specs.Vocabulary.{PlainDerivedPart}
use Rattle.answer_json.specs.Vocabulary.{array_of}
use Rattle.certificate.specs.declared.fault.Key.TheVariants as keys
use Rattle.certificate.specs.declared.fault.CertFault.TheVariants.{Member, NotJson}
use Rattle.certificate.specs.Vocabulary.{◌>>=◌, or_fault, PlainPartCertificate, treated, natural, formula_in, derivation_in, member_by, member_count, version_in, part_in, more_parts, parts_in, part_target_in, treated_certificate_in, natural_certificate_in, part_value_certificate, part_certificate_in}
use Rattle.certificate_json.specs.Certificates.{expr_json, lemma_json}
use Rattle.certificate_json.specs.Kept.{are_steps_short}
use Rattle.certificate_json.specs.StepSizes as step
use Rattle.certificate_json.specs.Writable.{IsFormulaShallow}
use Rattle.certificate_json.specs.PartCertificates.{ArePartsShallow, ArePartsWithin, IsPartTarget, IsPartWithin, IsPartWritable, PartTextReadsBack, are_parts_short, is_part_short, part_certificate_json, part_certificate_text, part_json, parts_of}
use Rattle.certificate_json.proofs.Values.{expr_items, lemma_items, set_value, step_value}
use Rattle.certificate_json.proofs.Seen.{IsSeen, AreSeen, deeper, string_seen, number_seen, none_seen, one_more, array_seen, no_more, member_more, object_seen, read_printed}
use Rattle.certificate_json.proofs.StepsSeen.{set_seen, step_seen}
use Rattle.certificate_json.proofs.CertificatesSeen.{expr_seen, exprs_seen, lemmas_seen}
use Rattle.certificate_json.proofs.SetsBack.{set_reads_back}
use Rattle.certificate_json.proofs.StepsBack.{step_reads_back}
use Rattle.certificate_json.proofs.FormulasBack.{main_back, whole_back, defs_back, filled_back, lemmas_back}
use Rattle.certificate_json.proofs.CertificatesBack.{def_list_back, defs_checked, derivation_back, formula_back, lemma_list_back, member_back, none_apart, target_parts}

-- ---- values

-- the object of a part
abbrev part_value : List (List ℕ) → PlainDerivedPart → Data
part_value names p = object (
    member (codes "defs") (array (expr_items names p.formula.defs)) (
    member (codes "district") (set_value names p.district) (
    member (codes "formula") (string (text_of names p.formula.main)) (
    member (codes "lemmas") (array (lemma_items names p.derivation.lemmas)) (
    member (codes "main") (step_value names p.derivation.main) no_members)))))

-- parts
abbrev part_items : List (List ℕ) → List PlainDerivedPart → Items
part_items names [] = no_items
part_items names (p ∷ ps) = item (part_value names p) (part_items names ps)

-- the object of a certificate in parts
abbrev part_certificate_value : List (List ℕ) → PlainPartCertificate → Data
part_certificate_value names (treated t ps) = object (
    member (codes "answer") (string (codes "treated")) (
    member (codes "given") (set_value names t.given) (
    member (codes "parts") (array (part_items names ps)) (
    member (codes "version") (number (unsigned 3)) (
    member (codes "x") (set_value names t.x) (
    member (codes "y") (set_value names t.y) no_members))))))
part_certificate_value names (natural t m ps) = object (
    member (codes "answer") (string (codes "natural")) (
    member (codes "given") (set_value names t.given) (
    member (codes "parts") (array (part_items names ps)) (
    member (codes "through") (set_value names m) (
    member (codes "version") (number (unsigned 3)) (
    member (codes "x") (set_value names t.x) (
    member (codes "y") (set_value names t.y) no_members)))))))

-- ---- what a reader sees

part_seen : (names : List (List ℕ)) (p : PlainDerivedPart) → AreNames names → is_part_short p ≡ true → IsFormulaShallow p.formula p.derivation
    → IsSeen (part_json names p) (part_value names p) 124
part_seen names p are short shallow =
    let kept = and_true (are_steps_short p.derivation.lemmas) (step.is_short p.derivation.main) short in
    object_seen _ _ 123
    (member_more (codes "defs") _ _ _ _ _ 123 (IsUtf8-are_ascii (codes "defs") refl)
    (deeper 123 (omega arith) (array_seen (map (expr_json names) p.formula.defs) (expr_items names p.formula.defs) 0
    (exprs_seen names p.formula.defs 0 are)))
    (member_more (codes "district") _ _ _ _ _ 123 (IsUtf8-are_ascii (codes "district") refl) (set_seen names p.district 122 are)
    (member_more (codes "formula") _ _ _ _ _ 123 (IsUtf8-are_ascii (codes "formula") refl) (expr_seen names p.formula.main 123 are)
    (member_more (codes "lemmas") _ _ _ _ _ 123 (IsUtf8-are_ascii (codes "lemmas") refl)
    (array_seen (map (lemma_json names) p.derivation.lemmas) (lemma_items names p.derivation.lemmas) 122
    (lemmas_seen names p.derivation.lemmas are kept.0 shallow.lemmas))
    (member_more (codes "main") _ _ _ _ _ 123 (IsUtf8-are_ascii (codes "main") refl)
    (deeper 123 (omega (arith, shallow.main)) (step_seen names p.derivation.main are kept.1)) (no_more _ 123))))))

parts_seen : (names : List (List ℕ)) (ps : List PlainDerivedPart) → AreNames names → are_parts_short ps ≡ true → ArePartsShallow ps
    → AreSeen (map (part_json names) ps) (part_items names ps) 124
parts_seen names [] are short shallow = none_seen 124
parts_seen names (p ∷ ps) are short shallow =
    let kept = and_true (is_part_short p) (are_parts_short ps) short in
    one_more (part_json names p) (part_value names p) (map (part_json names) ps) (part_items names ps) 124 (part_seen names p are kept.0 shallow.0)
    (parts_seen names ps are kept.1 shallow.1)

list_seen : (names : List (List ℕ)) (ps : List PlainDerivedPart) → AreNames names → are_parts_short ps ≡ true → ArePartsShallow ps
    → IsSeen (array_of (map (part_json names) ps)) (array (part_items names ps)) 126
list_seen names ps are short shallow = deeper 126 (omega arith) (array_seen (map (part_json names) ps) (part_items names ps) 124
    (parts_seen names ps are short shallow))

seen : (names : List (List ℕ)) (c : PlainPartCertificate) → AreNames names → are_parts_short (parts_of c) ≡ true → ArePartsShallow (parts_of c)
    → IsSeen (part_certificate_json names c) (part_certificate_value names c) 127
seen names (treated t ps) are short shallow =
    object_seen _ _ 126
    (member_more (codes "answer") _ _ _ _ _ 126 (IsUtf8-are_ascii (codes "answer") refl)
    (string_seen (codes "treated") 126 (IsUtf8-are_ascii (codes "treated") refl))
    (member_more (codes "given") _ _ _ _ _ 126 (IsUtf8-are_ascii (codes "given") refl) (set_seen names t.given 125 are)
    (member_more (codes "parts") _ _ _ _ _ 126 (IsUtf8-are_ascii (codes "parts") refl) (list_seen names ps are short shallow)
    (member_more (codes "version") _ _ _ _ _ 126 (IsUtf8-are_ascii (codes "version") refl) (number_seen 3 126 (omega arith))
    (member_more (codes "x") _ _ _ _ _ 126 (IsUtf8-are_ascii (codes "x") refl) (set_seen names t.x 125 are)
    (member_more (codes "y") _ _ _ _ _ 126 (IsUtf8-are_ascii (codes "y") refl) (set_seen names t.y 125 are) (no_more _ 126)))))))
seen names (natural t m ps) are short shallow =
    object_seen _ _ 126
    (member_more (codes "answer") _ _ _ _ _ 126 (IsUtf8-are_ascii (codes "answer") refl)
    (string_seen (codes "natural") 126 (IsUtf8-are_ascii (codes "natural") refl))
    (member_more (codes "given") _ _ _ _ _ 126 (IsUtf8-are_ascii (codes "given") refl) (set_seen names t.given 125 are)
    (member_more (codes "parts") _ _ _ _ _ 126 (IsUtf8-are_ascii (codes "parts") refl) (list_seen names ps are short shallow)
    (member_more (codes "through") _ _ _ _ _ 126 (IsUtf8-are_ascii (codes "through") refl) (set_seen names m 125 are)
    (member_more (codes "version") _ _ _ _ _ 126 (IsUtf8-are_ascii (codes "version") refl) (number_seen 3 126 (omega arith))
    (member_more (codes "x") _ _ _ _ _ 126 (IsUtf8-are_ascii (codes "x") refl) (set_seen names t.x 125 are)
    (member_more (codes "y") _ _ _ _ _ 126 (IsUtf8-are_ascii (codes "y") refl) (set_seen names t.y 125 are) (no_more _ 126))))))))

-- ---- what is read of it

part_back : (names : List (List ℕ)) (p : PlainDerivedPart) → AreNames names → IsPartWithin (length names) p → is_part_short p ≡ true
    → IsFormulaShallow p.formula p.derivation → part_in names (part_value names p) ≡ Ok p
unfolding part_in
part_back names p are within short shallow =
    let d = part_value names p in
    let f = p.formula in
    let kept = and_true (are_steps_short p.derivation.lemmas) (step.is_short p.derivation.main) short in
    let defs = def_list_back names f.defs (defs_back names f.defs [] 0 are refl (defs_checked names f within.formed) (omega (arith, shallow.numbered))
    shallow.defs_texts) in
    let lemmas = lemma_list_back names p.derivation.lemmas (lemmas_back names p.derivation.lemmas [] are within.derivation.sets within.derivation.lemmas
    kept.0 shallow.lemmas none_apart) in
    ap (λ r. r >>= λ district. formula_in names d >>= λ f. derivation_in names d >>= λ q.
    cond (member_count (as_object d) == 5) (Ok (record { district = district; formula = f; derivation = q })) (Err (Member keys.Extra)))
    (member_back keys.District (codes "district") (filled_set_in names 0) d (set_value names p.district) p.district refl
    (filled_back names 0 p.district are within.district (none_apart p.district) within.some))
    ∙ ap (λ r. r >>= λ f. derivation_in names d >>= λ q.
    cond (member_count (as_object d) == 5) (Ok (record { district = p.district; formula = f; derivation = q })) (Err (Member keys.Extra)))
    (formula_back names d f (main_back names f are within.formed shallow.numbered shallow.main_text) defs (whole_back (length names) f within.formed)
    refl refl)
    ∙ ap (λ r. r >>= λ q.
    cond (member_count (as_object d) == 5) (Ok (record { district = p.district; formula = f; derivation = q })) (Err (Member keys.Extra)))
    (derivation_back names d p.derivation lemmas (step_reads_back names p.derivation.main are within.derivation.main kept.1 shallow.main) refl refl)

list_back : (names : List (List ℕ)) (ps before : List PlainDerivedPart) → AreNames names → ArePartsWithin (length names) ps → are_parts_short ps ≡ true
    → ArePartsShallow ps → more_parts names before (part_items names ps) ≡ Ok (before ++ ps)
list_back names [] before are within short shallow = ap (λ l. Ok l) (sym (append-nil before))
list_back names (p ∷ ps) before are within short shallow =
    let kept = and_true (is_part_short p) (are_parts_short ps) short in
    ap (λ r. r >>= λ x. more_parts names (before ++ x ∷ []) (part_items names ps)) (part_back names p are within.0 kept.0 shallow.0)
    ∙ list_back names ps (before ++ p ∷ []) are within.1 kept.1 shallow.1
    ∙ ap (λ l. Ok l) (append_assoc before (p ∷ []) ps)

target_back : (names : List (List ℕ)) (d : Data) (t : PlainTarget) → AreNames names → IsPartTarget (length names) t
    → get (codes "x") d ≡ Some (set_value names t.x) → get (codes "y") d ≡ Some (set_value names t.y) → get (codes "given") d ≡ Some (set_value names t.given)
    → part_target_in names d ≡ Ok t
unfolding part_target_in
target_back names d t are within at_x at_y at_given =
    let p = target_parts (length names) t within.sets in
    ap (λ r. r >>= λ x. member_by keys.Y (codes "y") (filled_set_in names x) d >>= λ y.
    member_by keys.Given (codes "given") (set_in names (union x y)) d >>= λ given. Ok (record { x = x; y = y; given = given }))
    (member_back keys.X (codes "x") (filled_set_in names 0) d (set_value names t.x) t.x at_x
    (filled_back names 0 t.x are p.x_below (none_apart t.x) within.some))
    ∙ ap (λ r. r >>= λ y. member_by keys.Given (codes "given") (set_in names (union t.x y)) d >>= λ given. Ok (record { x = t.x; y = y; given = given }))
    (member_back keys.Y (codes "y") (filled_set_in names t.x) d (set_value names t.y) t.y at_y (filled_back names t.x t.y are p.y_below p.apart p.some))
    ∙ ap (λ r. r >>= λ given. Ok (record { x = t.x; y = t.y; given = given }))
    (member_back keys.Given (codes "given") (set_in names (union t.x t.y)) d (set_value names t.given) t.given at_given
    (set_reads_back names (union t.x t.y) t.given are p.given_below p.given_apart))

treated_back : (names : List (List ℕ)) (t : PlainTarget) (ps : List PlainDerivedPart) → AreNames names → IsPartWritable (length names) (treated t ps)
    → are_parts_short ps ≡ true → ArePartsShallow ps
    → treated_certificate_in names (part_certificate_value names (treated t ps)) ≡ Ok (treated t ps)
unfolding treated_certificate_in
treated_back names t ps are writable short shallow =
    let d = part_certificate_value names (treated t ps) in
    ap (λ r. r >>= λ t. parts_in names d >>= λ ps. cond (member_count (as_object d) == 6) (Ok (treated t ps)) (Err (Member keys.Extra)))
    (target_back names d t are writable.0 refl refl refl)
    ∙ ap (λ r. r >>= λ ps. cond (member_count (as_object d) == 6) (Ok (treated t ps)) (Err (Member keys.Extra)))
    (list_back names ps [] are writable.1 short shallow)

natural_back : (names : List (List ℕ)) (t : PlainTarget) (m : ℕ) (ps : List PlainDerivedPart) → AreNames names
    → IsPartWritable (length names) (natural t m ps) → are_parts_short ps ≡ true → ArePartsShallow ps
    → natural_certificate_in names (part_certificate_value names (natural t m ps)) ≡ Ok (natural t m ps)
unfolding natural_certificate_in
natural_back names t m ps are writable short shallow =
    let d = part_certificate_value names (natural t m ps) in
    ap (λ r. r >>= λ t. member_by keys.Through (codes "through") (filled_set_in names (union (union t.x t.y) t.given)) d >>= λ m.
    parts_in names d >>= λ ps. cond (member_count (as_object d) == 7) (Ok (natural t m ps)) (Err (Member keys.Extra)))
    (target_back names d t are writable.0 refl refl refl)
    ∙ ap (λ r. r >>= λ m. parts_in names d >>= λ ps. cond (member_count (as_object d) == 7) (Ok (natural t m ps)) (Err (Member keys.Extra)))
    (member_back keys.Through (codes "through") (filled_set_in names (union (union t.x t.y) t.given)) d (set_value names m) m refl
    (filled_back names (union (union t.x t.y) t.given) m are writable.1 writable.2 writable.3))
    ∙ ap (λ r. r >>= λ ps. cond (member_count (as_object d) == 7) (Ok (natural t m ps)) (Err (Member keys.Extra)))
    (list_back names ps [] are writable.4 short shallow)

value_back : (names : List (List ℕ)) (c : PlainPartCertificate) → AreNames names → IsPartWritable (length names) c → are_parts_short (parts_of c) ≡ true
    → ArePartsShallow (parts_of c) → part_value_certificate names (part_certificate_value names c) ≡ Ok c
unfolding part_value_certificate version_in
value_back names (treated t ps) are writable short shallow = treated_back names t ps are writable short shallow
value_back names (natural t m ps) are writable short shallow = natural_back names t m ps are writable short shallow

pub part_text_back : PartTextReadsBack
unfolding part_certificate_in
part_text_back names c are writable short shallow =
    ap (λ o. or_fault NotJson o >>= part_value_certificate names)
    (read_printed (part_certificate_json names c) (part_certificate_value names c) (seen names c are short shallow))
    ∙ value_back names c are writable short shallow

-- what was written, if it was
pub part_written_back : {A E : Type 0} (r : Result A E) (names : List (List ℕ)) (c : PlainPartCertificate) → AreNames names
    → are_parts_short (parts_of c) ≡ true → IsPartWritable (length names) c → ArePartsShallow (parts_of c)
    → IfOk r (λ v. part_certificate_in names (part_certificate_text names c) ≡ Ok c)
part_written_back (Ok v) names c are short writable shallow = part_text_back names c are writable short shallow
part_written_back (Err e) names c are short writable shallow = tt
