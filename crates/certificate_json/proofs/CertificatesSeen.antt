-- What a reader sees of a certificate.
use Rattle.std.proofs.Common.{◌≡◌, ℕ, ◌≤◌, Bool, true, false, cond, List, [], ◌∷◌, ◌++◌, map, codes, decimal, refl, arith}
use Rattle.std.proofs.lemmas.Bool.{and_parts}
use Rattle.json.specs.Json.{Json}
use Rattle.json.specs.Json as json
use Rattle.json.proofs.Printed.Utf8.{IsUtf8-are_ascii}
use Rattle.mixed_graph.specs.Vocabulary.{is_empty, AreNames}
use Rattle.prob_expr.specs.Tree.{Tree}
use Rattle.prob_expr.specs.Vocabulary.{PlainTarget}
use Rattle.do_derivation.specs.Vocabulary.{PlainLemma}
use Rattle.expr_text.specs.Vocabulary.{text_of}
use Rattle.serde_json.specs.Data.{Data, string, number, unsigned, no_items, item, no_members, member}
use Rattle.certificate_json.specs.StepSizes.{is_short, nesting}
use Rattle.certificate.specs.Vocabulary.{PlainHedge, PlainCertificate, formula, hedge}
use Rattle.answer_json.specs.Vocabulary.{set_json, vertices_json, pair_json}
use Rattle.certificate_json.specs.Kept.{are_steps_short, IsRepresentable}
use Rattle.certificate_json.specs.Writable.{AreStepsShallow, IsShallow}
use Rattle.certificate_json.specs.Steps.{step_json}
use Rattle.certificate_json.specs.Certificates.{expr_json, lemma_json, link_values, choices_from, version_of, certificate_json}
use Rattle.certificate_json.proofs.Seen.{IsSeen, AreSeen, AreMembersSeen, deeper, string_seen, text_seen, number_seen, none_seen, one_more, array_seen}
use Rattle.certificate_json.proofs.Seen.{no_more, member_more, object_seen}
use Rattle.certificate_json.proofs.StepsSeen.{vertices_seen, set_seen, step_seen}
use Rattle.certificate_json.proofs.Utf8.{text_is_utf8}
use Rattle.certificate_json.proofs.Values.{names_value, set_value, step_value, expr_items, lemma_value, lemma_items, pair_items, link_items, certificate_value}

-- ---- formulas

pub expr_seen : (names : List (List ℕ)) (t : Tree) (n : ℕ) → AreNames names → IsSeen (expr_json names t) (string (text_of names t)) n
expr_seen names t n are = text_seen (text_of names t) n (text_is_utf8 names t are)

pub exprs_seen : (names : List (List ℕ)) (ts : List Tree) (n : ℕ) → AreNames names → AreSeen (map (expr_json names) ts) (expr_items names ts) n
exprs_seen names [] n are = none_seen n
exprs_seen names (t ∷ ts) n are =
    one_more (expr_json names t) (string (text_of names t)) (map (expr_json names) ts) (expr_items names ts) n (expr_seen names t n are)
    (exprs_seen names ts n are)

lemma_seen : (names : List (List ℕ)) (l : PlainLemma) → AreNames names → is_short l.plan ≡ true → nesting l.plan ≤ 60
    → IsSeen (lemma_json names l) (lemma_value names l) 122
lemma_seen names l are short shallow =
    let step = deeper 121 (omega (arith, shallow)) (step_seen names l.plan are short) in
    array_seen (set_json names l.set ∷ step_json names l.plan ∷ []) (item (set_value names l.set) (item (step_value names l.plan) no_items)) 121
    (one_more (set_json names l.set) (set_value names l.set) (step_json names l.plan ∷ []) (item (step_value names l.plan) no_items) 121
    (set_seen names l.set 120 are)
    (one_more (step_json names l.plan) (step_value names l.plan) [] no_items 121 step (none_seen 121)))

pub lemmas_seen : (names : List (List ℕ)) (ls : List PlainLemma) → AreNames names → are_steps_short ls ≡ true → AreStepsShallow ls
    → AreSeen (map (lemma_json names) ls) (lemma_items names ls) 122
lemmas_seen names [] are short shallow = none_seen 122
lemmas_seen names (l ∷ ls) are short shallow =
    let parts = and_parts (is_short l.plan) (are_steps_short ls) short in
    one_more (lemma_json names l) (lemma_value names l) (map (lemma_json names) ls) (lemma_items names ls) 122 (lemma_seen names l are parts.0 shallow.0)
    (lemmas_seen names ls are parts.1 shallow.1)

-- ---- hedges

pair_seen : (names : List (List ℕ)) (p : ℕ × ℕ) → AreNames names → IsSeen (pair_json names p) (names_value names (p.0 ∷ p.1 ∷ [])) 1
pair_seen names p are = vertices_seen names (p.0 ∷ p.1 ∷ []) 0 are

pairs_seen : (names : List (List ℕ)) (ps : List (ℕ × ℕ)) → AreNames names → AreSeen (map (pair_json names) ps) (pair_items names ps) 1
pairs_seen names [] are = none_seen 1
pairs_seen names (p ∷ ps) are =
    one_more (pair_json names p) (names_value names (p.0 ∷ p.1 ∷ [])) (map (pair_json names) ps) (pair_items names ps) 1 (pair_seen names p are)
    (pairs_seen names ps are)

links_seen : (names : List (List ℕ)) (ls : List (ℕ × ℕ)) → AreNames names → AreSeen (link_values names ls) (link_items names ls) 1
links_seen names [] are = none_seen 1
links_seen names (l ∷ ls) are =
    one_more (vertices_json names (l.0 ∷ [])) (names_value names (l.0 ∷ [])) (map (pair_json names) ls) (pair_items names ls) 1
    (vertices_seen names (l.0 ∷ []) 0 are) (pairs_seen names ls are)

-- ---- certificates

version_seen : (given n : ℕ) → IsSeen (json.number (decimal (version_of given))) (number (unsigned (version_of given))) n
version_seen given n = by (is_empty given)
  where
    by : (bare : Bool) → IsSeen (json.number (decimal (cond bare 1 2))) (number (unsigned (cond bare 1 2))) n
    by true = number_seen 1 n (omega arith)
    by false = number_seen 2 n (omega arith)

-- the members of a formula's certificate, of which one may be left out
formula_seen : (bare : Bool) (defs main given lemmas steps version x y : Json) (defs_d main_d given_d lemmas_d steps_d version_d x_d y_d : Data) (n : ℕ)
    → IsSeen defs defs_d n → IsSeen main main_d n → IsSeen given given_d n → IsSeen lemmas lemmas_d n → IsSeen steps steps_d n → IsSeen version version_d n
    → IsSeen x x_d n → IsSeen y y_d n
    → AreMembersSeen ((codes "answer", json.string (codes "formula")) ∷ (codes "defs", defs) ∷ (codes "formula", main)
    ∷ (cond bare [] ((codes "given", given) ∷ []) ++ ((codes "lemmas", lemmas) ∷ (codes "main", steps) ∷ (codes "version", version) ∷ (codes "x", x)
    ∷ (codes "y", y) ∷ []))) no_members (
    let rest = member (codes "lemmas") lemmas_d (member (codes "main") steps_d (member (codes "version") version_d (member (codes "x") x_d
    (member (codes "y") y_d no_members)))) in
    member (codes "answer") (string (codes "formula")) (member (codes "defs") defs_d (member (codes "formula") main_d
    (cond bare rest (member (codes "given") given_d rest))))) n
formula_seen true defs main given lemmas steps version x y defs_d main_d given_d lemmas_d steps_d version_d x_d y_d n a b c d e f g h =
    member_more (codes "answer") _ _ _ _ _ n (IsUtf8-are_ascii (codes "answer") refl)
    (string_seen (codes "formula") n (IsUtf8-are_ascii (codes "formula") refl))
    (member_more (codes "defs") defs defs_d _ _ _ n (IsUtf8-are_ascii (codes "defs") refl) a
    (member_more (codes "formula") main main_d _ _ _ n (IsUtf8-are_ascii (codes "formula") refl) b
    (member_more (codes "lemmas") lemmas lemmas_d _ _ _ n (IsUtf8-are_ascii (codes "lemmas") refl) d
    (member_more (codes "main") steps steps_d _ _ _ n (IsUtf8-are_ascii (codes "main") refl) e
    (member_more (codes "version") version version_d _ _ _ n (IsUtf8-are_ascii (codes "version") refl) f
    (member_more (codes "x") x x_d _ _ _ n (IsUtf8-are_ascii (codes "x") refl) g
    (member_more (codes "y") y y_d _ _ _ n (IsUtf8-are_ascii (codes "y") refl) h (no_more _ n))))))))
formula_seen false defs main given lemmas steps version x y defs_d main_d given_d lemmas_d steps_d version_d x_d y_d n a b c d e f g h =
    member_more (codes "answer") _ _ _ _ _ n (IsUtf8-are_ascii (codes "answer") refl)
    (string_seen (codes "formula") n (IsUtf8-are_ascii (codes "formula") refl))
    (member_more (codes "defs") defs defs_d _ _ _ n (IsUtf8-are_ascii (codes "defs") refl) a
    (member_more (codes "formula") main main_d _ _ _ n (IsUtf8-are_ascii (codes "formula") refl) b
    (member_more (codes "given") given given_d _ _ _ n (IsUtf8-are_ascii (codes "given") refl) c
    (member_more (codes "lemmas") lemmas lemmas_d _ _ _ n (IsUtf8-are_ascii (codes "lemmas") refl) d
    (member_more (codes "main") steps steps_d _ _ _ n (IsUtf8-are_ascii (codes "main") refl) e
    (member_more (codes "version") version version_d _ _ _ n (IsUtf8-are_ascii (codes "version") refl) f
    (member_more (codes "x") x x_d _ _ _ n (IsUtf8-are_ascii (codes "x") refl) g
    (member_more (codes "y") y y_d _ _ _ n (IsUtf8-are_ascii (codes "y") refl) h (no_more _ n)))))))))

-- the members of a hedge's certificate
hedge_seen : (names : List (List ℕ)) (t : PlainTarget) (h : PlainHedge) → AreNames names
    → IsSeen (certificate_json names (hedge t h)) (certificate_value names (hedge t h)) 127
hedge_seen names t h are =
    object_seen _ _ 126
    (member_more (codes "answer") _ _ _ _ _ 126 (IsUtf8-are_ascii (codes "answer") refl)
    (string_seen (codes "hedge") 126 (IsUtf8-are_ascii (codes "hedge") refl))
    (member_more (codes "big") _ _ _ _ _ 126 (IsUtf8-are_ascii (codes "big") refl) (set_seen names h.big 125 are)
    (member_more (codes "choice") _ _ _ _ _ 126 (IsUtf8-are_ascii (codes "choice") refl)
    (deeper 126 (omega arith) (array_seen (map (pair_json names) (choices_from 0 h.choice)) (pair_items names (choices_from 0 h.choice)) 1
    (pairs_seen names (choices_from 0 h.choice) are)))
    (member_more (codes "links") _ _ _ _ _ 126 (IsUtf8-are_ascii (codes "links") refl)
    (deeper 126 (omega arith) (array_seen (link_values names h.links) (link_items names h.links) 1 (links_seen names h.links are)))
    (member_more (codes "roots") _ _ _ _ _ 126 (IsUtf8-are_ascii (codes "roots") refl) (set_seen names h.roots 125 are)
    (member_more (codes "small") _ _ _ _ _ 126 (IsUtf8-are_ascii (codes "small") refl) (set_seen names h.small 125 are)
    (member_more (codes "version") _ _ _ _ _ 126 (IsUtf8-are_ascii (codes "version") refl) (version_seen t.given 126)
    (member_more (codes "x") _ _ _ _ _ 126 (IsUtf8-are_ascii (codes "x") refl) (set_seen names t.x 125 are)
    (member_more (codes "y") _ _ _ _ _ 126 (IsUtf8-are_ascii (codes "y") refl) (set_seen names t.y 125 are) (no_more _ 126))))))))))

-- a certificate is seen as it is, and nests 127 deep at most
pub certificate_seen : (names : List (List ℕ)) (c : PlainCertificate) → AreNames names → IsRepresentable c → IsShallow c
    → IsSeen (certificate_json names c) (certificate_value names c) 127
certificate_seen names (formula t f p) are kept shallow =
    object_seen _ _ 126
    (formula_seen (is_empty t.given) _ _ _ _ _ _ _ _ _ _ _ _ _ _ _ _ 126
    (deeper 126 (omega arith) (array_seen (map (expr_json names) f.defs) (expr_items names f.defs) 0 (exprs_seen names f.defs 0 are)))
    (expr_seen names f.main 126 are)
    (set_seen names t.given 125 are)
    (deeper 126 (omega arith) (array_seen (map (lemma_json names) p.lemmas) (lemma_items names p.lemmas) 122
    (lemmas_seen names p.lemmas are kept.0 shallow.lemmas)))
    (deeper 126 (omega (arith, shallow.main)) (step_seen names p.main are kept.1))
    (version_seen t.given 126) (set_seen names t.x 125 are) (set_seen names t.y 125 are))
certificate_seen names (hedge t h) are kept shallow = hedge_seen names t h are
