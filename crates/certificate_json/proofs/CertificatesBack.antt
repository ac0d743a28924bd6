-- What is written for a certificate is read again.
use Rattle.std.proofs.Common.{◌≡◌, ◌≤◌, ◌<◌, ◌==◌, ℕ, Bool, true, false, cond, not, ◌&&◌, ◌||◌, List, [], ◌∷◌, length, codes, Some, None, Result, Ok}
use Rattle.std.proofs.Common.{Err, is_ok, refl, sym, ap, subst, ◌∙◌, arith, eqb-true, if◌then◌else◌}
use Rattle.std.specs.Prelude.{All}
use Rattle.mixed_graph.specs.Vocabulary.{has, AreNames, union, is_empty, is_below, is_apart}
use Rattle.prob_expr.specs.Vocabulary.{are_term_sets, PlainTarget, PlainFormula, check_tree, fault_of, fault_in_defs, fault_in}
use Rattle.prob_expr.specs.Tree.{Tree}
use Rattle.expr_text.proofs.Checked.{neither}
use Rattle.mixed_graph.proofs.MaskLaws.{apart_from, apart_has, has_join, has_none}
use Rattle.do_derivation.specs.Vocabulary.{PlainLemma, PlainDerivation}
use Rattle.expr_text.specs.Vocabulary.{text_of}
use Rattle.expr_text.proofs.Within.{and_true}
use Rattle.serde_json.specs.Data.{Data, string, number, unsigned, array, object, no_members, member}
use Rattle.serde_json.specs.Find.{get, as_object}
use Rattle.step_json.specs.declared.fault.ValueFault.{ValueFault}
use Rattle.step_json.specs.Vocabulary.{each, set_in, filled_set_in, step_in}
use Rattle.certificate_json.proofs.Values.{set_value, step_value}
use Rattle.certificate_json.proofs.SetsBack.{set_reads_back}
use Rattle.certificate_json.proofs.StepsBack.{step_reads_back}
use Rattle.certificate.specs.declared.fault.Key.{Key}
use Rattle.certificate.specs.declared.fault.CertFault.TheVariants.{Member, Version}
use Rattle.certificate.specs.Vocabulary.{◌>>=◌, at_key, or_fault, PlainHedge, PlainCertificate, formula, hedge, choice_in, links_in, member_by, main_in, more_defs, defs_in, lemma_in, lemmas_in, version_in, given_in, target_in, whole, formula_in, derivation_in, member_count, key_count, formula_certificate_in, hedge_in, hedge_certificate_in, answer_in, is_version, value_certificate}
use Rattle.certificate.specs.declared.fault.Key.TheVariants as keys
use Rattle.certificate_json.specs.Kept.{IsRepresentable, IsStartBlank}
use Rattle.certificate_json.specs.Writable.{IsTargetWithin, IsHedgeWithin, IsWritable, IsShallow}
use Rattle.certificate_json.specs.Certificates.{choices_from, version_of}
use Rattle.certificate_json.proofs.Values.{expr_items, lemma_items, pair_items, link_items, certificate_value}
use Rattle.certificate_json.proofs.FormulasBack.{main_back, whole_back, defs_back, filled_back, lemmas_back}
use Rattle.certificate_json.proofs.HedgesBack.{choice_back, links_back}
use Rattle.certificate_json.proofs.Pairs.{IsWithin}

-- ---- members

-- a member that is there and reads back
pub member_back : {A : Type 0} (key : Key) (name : List ℕ) (f : Data → Result A ValueFault) (d v : Data) (x : A) → get name d ≡ Some v → f v ≡ Ok x
    → member_by key name f d ≡ Ok x
member_back key name f d v x at reads = ap (λ r. or_fault (Member key) r >>= λ v. at_key key (f v)) at ∙ ap (at_key key) reads

pub none_apart : (set : ℕ) → is_apart 0 set ≡ true
none_apart set = apart_from 0 set (λ v h. absurd (nothing_in v h))
  where
    nothing_in : (v : ℕ) → has 0 v ≡ true → ⊥
    nothing_in v h = cc (h, has_none v)

set_back : (names : List (List ℕ)) (key : Key) (name : List ℕ) (d : Data) (set : ℕ) → AreNames names → is_below (length names) set ≡ true → get name d
    ≡ Some (set_value names set)
    → member_by key name (set_in names 0) d ≡ Ok set
set_back names key name d set are within at = member_back key name (set_in names 0) d (set_value names set)
    set at (set_reads_back names 0 set are within (none_apart set))

-- the parts of a target
pub record TargetParts (n : ℕ) (t : PlainTarget) : Type 0 where
  pub x_below : is_below n t.x ≡ true
  pub y_below : is_below n t.y ≡ true
  pub given_below : is_below n t.given ≡ true
  pub apart : is_apart t.x t.y ≡ true
  pub given_apart : is_apart (union t.x t.y) t.given ≡ true
  pub some : not (is_empty t.y) ≡ true

other_way : (a b : ℕ) → is_apart a b ≡ true → is_apart b a ≡ true
other_way a b h = apart_from b a (λ v e. go v e (has a v) refl)
  where
    go : (v : ℕ) → has b v ≡ true → (c : Bool) → has a v ≡ c → has a v ≡ false
    go v e true k = cc (e, apart_has a b v h k)
    go v e false k = k

-- what two sets don't meet isn't met by both together
neither_meets : (a b c : ℕ) → is_apart a c ≡ true → is_apart b c ≡ true → is_apart (union a b) c ≡ true
neither_meets a b c h k = apart_from (union a b) c (λ v e. go v (has a v) refl (sym (has_join a b v) ∙ e))
  where
    go : (v : ℕ) (in_a : Bool) → has a v ≡ in_a → (has a v || has b v) ≡ true → has c v ≡ false
    go v true e both = apart_has a c v h e
    go v false e both = apart_has b c v k (ap (λ p. p || has b v) (sym e) ∙ both)

pub target_parts : (n : ℕ) (t : PlainTarget) → IsTargetWithin n t → TargetParts n t
target_parts n t within =
    let a = and_true (are_term_sets n t.y t.x t.given) (not (is_empty t.y)) within in
    let s = and_true (is_below n t.y && (is_below n t.x && is_below n t.given)) (is_apart t.y t.x && (is_apart t.y t.given && is_apart t.x t.given)) a.0 in
    let y = and_true (is_below n t.y) (is_below n t.x && is_below n t.given) s.0 in
    let x = and_true (is_below n t.x) (is_below n t.given) y.1 in
    let p = and_true (is_apart t.y t.x) (is_apart t.y t.given && is_apart t.x t.given) s.1 in
    let g = and_true (is_apart t.y t.given) (is_apart t.x t.given) p.1 in
    record { x_below = x.0; y_below = y.0; given_below = x.1; apart = other_way t.y t.x p.0; given_apart = neither_meets t.x t.y t.given g.1 g.0; some = a.1 }

-- in version 1 nothing is given
none_given_back : (names : List (List ℕ)) (barred given : ℕ) (d : Data) → given ≡ 0 → given_in names 1 barred d ≡ Ok given
unfolding given_in
none_given_back names barred given d none = ap (λ g. Ok g) (sym none)

-- in version 2 a set is
given_back : (names : List (List ℕ)) (d : Data) (t : PlainTarget) → AreNames names → TargetParts (length names) t → is_empty t.given ≡ false
    → get (codes "given") d ≡ Some (set_value names t.given)
    → given_in names 2 (union t.x t.y) d ≡ Ok t.given
unfolding given_in
given_back names d t are p some at = member_back keys.Given (codes "given") (filled_set_in names (union t.x t.y)) d (set_value names t.given) t.given at
    (filled_back names (union t.x t.y) t.given are p.given_below p.given_apart (ap not some))

target_back : (names : List (List ℕ)) (version : ℕ) (d : Data) (t : PlainTarget) → AreNames names → TargetParts (length names) t
    → get (codes "x") d ≡ Some (set_value names t.x) → get (codes "y") d ≡ Some (set_value names t.y) → given_in names version (union t.x t.y) d ≡ Ok t.given
    → target_in names version d ≡ Ok t
unfolding target_in
target_back names version d t are p at_x at_y given =
    ap (λ r. r >>= λ x. member_by keys.Y (codes "y") (filled_set_in names x) d >>= λ y. given_in names version (union x y) d >>= λ given. Ok
    (record { x = x; y = y; given = given })) (set_back names keys.X (codes "x") d t.x are p.x_below at_x)
    ∙ ap (λ r. r >>= λ y. given_in names version (union t.x y) d >>= λ given. Ok (record { x = t.x; y = y; given = given }))
    (member_back keys.Y (codes "y") (filled_set_in names t.x) d (set_value names t.y) t.y at_y (filled_back names t.x t.y are p.y_below p.apart p.some))
    ∙ ap (λ r. r >>= λ given. Ok (record { x = t.x; y = t.y; given = given })) given

-- ---- formulas

pub defs_checked : (names : List (List ℕ)) (f : PlainFormula) → fault_in (length names) f ≡ None → fault_in_defs (length names) 0 f.defs ≡ None
defs_checked names f ok = (neither (fault_in_defs (length names) 0 f.defs) (fault_of (check_tree (length names) None (length f.defs) f.main 0)) ok).0

pub def_list_back : (names : List (List ℕ)) (ds : List Tree) → more_defs names [] (expr_items names ds) ≡ Ok ds → defs_in names (array (expr_items names ds))
    ≡ Ok ds
unfolding defs_in
def_list_back names ds h = h

pub lemma_list_back : (names : List (List ℕ)) (ls : List PlainLemma) → each (lemma_in names) [] (lemma_items names ls) ≡ Ok ls
    → lemmas_in names (array (lemma_items names ls)) ≡ Ok ls
unfolding lemmas_in
lemma_list_back names ls h = h

pub formula_back : (names : List (List ℕ)) (d : Data) (f : PlainFormula) → main_in names (string (text_of names f.main)) ≡ Ok f.main
    → defs_in names (array (expr_items names f.defs)) ≡ Ok f.defs
    → is_ok (check_tree (length names) None (length f.defs) f.main 0) ≡ true
    → get (codes "formula") d ≡ Some (string (text_of names f.main)) → get (codes "defs") d ≡ Some (array (expr_items names f.defs))
    → formula_in names d ≡ Ok f
unfolding formula_in
formula_back names d f main defs ok at_main at_defs =
    ap (λ r. r >>= λ main. member_by keys.Defs (codes "defs") (defs_in names) d >>= λ defs. whole names (record { defs = defs; main = main }))
    (member_back keys.Formula (codes "formula") (main_in names) d (string (text_of names f.main)) f.main at_main main)
    ∙ ap (λ r. r >>= λ defs. whole names (record { defs = defs; main = f.main }))
    (member_back keys.Defs (codes "defs") (defs_in names) d (array (expr_items names f.defs)) f.defs at_defs defs)
    ∙ ap (λ b. cond b (Ok f) (Err (Member keys.Formula))) ok

pub derivation_back : (names : List (List ℕ)) (d : Data) (p : PlainDerivation) → lemmas_in names (array (lemma_items names p.lemmas)) ≡ Ok p.lemmas
    → step_in names (step_value names p.main) ≡ Ok p.main
    → get (codes "lemmas") d ≡ Some (array (lemma_items names p.lemmas)) → get (codes "main") d ≡ Some (step_value names p.main)
    → derivation_in names d ≡ Ok p
unfolding derivation_in
derivation_back names d p lemmas main at_lemmas at_main =
    ap (λ r. r >>= λ lemmas. member_by keys.Main (codes "main") (step_in names) d >>= λ main. Ok (record { lemmas = lemmas; main = main }))
    (member_back keys.Lemmas (codes "lemmas") (lemmas_in names) d (array (lemma_items names p.lemmas)) p.lemmas at_lemmas lemmas)
    ∙ ap (λ r. r >>= λ main. Ok (record { lemmas = p.lemmas; main = main }))
    (member_back keys.Main (codes "main") (step_in names) d (step_value names p.main) p.main at_main main)

-- the object of a formula's certificate, by whether nothing is given
abbrev object_by : (bare : Bool) → List (List ℕ) → PlainTarget → PlainFormula → PlainDerivation → Data
object_by bare names t f p =
    let rest = member (codes "lemmas") (array (lemma_items names p.lemmas)) (
    member (codes "main") (step_value names p.main) (
    member (codes "version") (number (unsigned (cond bare 1 2))) (
    member (codes "x") (set_value names t.x) (
    member (codes "y") (set_value names t.y) no_members)))) in
    object (
    member (codes "answer") (string (codes "formula")) (
    member (codes "defs") (array (expr_items names f.defs)) (
    member (codes "formula") (string (text_of names f.main)) (cond bare rest (member (codes "given") (set_value names t.given) rest)))))

-- the object has the members of the formula and its derivation
record HasFormula (names : List (List ℕ)) (f : PlainFormula) (p : PlainDerivation) (d : Data) : Type 0 where
  text : get (codes "formula") d ≡ Some (string (text_of names f.main))
  defs : get (codes "defs") d ≡ Some (array (expr_items names f.defs))
  lemmas : get (codes "lemmas") d ≡ Some (array (lemma_items names p.lemmas))
  main : get (codes "main") d ≡ Some (step_value names p.main)

-- where an object has the members of a formula's certificate, and so many
formula_certificate_back : (names : List (List ℕ)) (version : ℕ) (d : Data) (t : PlainTarget) (f : PlainFormula) (p : PlainDerivation)
    → AreNames names → IsWritable (length names) (formula t f p) → IsRepresentable (formula t f p) → IsShallow (formula t f p) → target_in names version d
    ≡ Ok t
    → HasFormula names f p d → (member_count (as_object d) == key_count version) ≡ true
    → formula_certificate_in names version d ≡ Ok (formula t f p)
unfolding formula_certificate_in
formula_certificate_back names version d t f p are writable kept shallow target at count =
    let defs = def_list_back names f.defs (defs_back names f.defs [] 0 are refl (defs_checked names f writable.1) (omega (arith, shallow.numbered))
    shallow.defs_texts) in
    let lemmas = lemma_list_back names p.lemmas (lemmas_back names p.lemmas [] are writable.2.sets writable.2.lemmas kept.0 shallow.lemmas none_apart) in
    let whole_object = λ (c : PlainCertificate). cond (member_count (as_object d) == key_count version) (Ok c) (Err (Member keys.Extra)) in
    ap (λ r. r >>= λ t. formula_in names d >>= λ f. derivation_in names d >>= λ p. whole_object (formula t f p)) target
    ∙ ap (λ r. r >>= λ f. derivation_in names d >>= λ p. whole_object (formula t f p))
    (formula_back names d f (main_back names f are writable.1 shallow.numbered shallow.main_text) defs (whole_back (length names) f writable.1) at.text at.defs)
    ∙ ap (λ r. r >>= λ p. whole_object (formula t f p)) (derivation_back names d p lemmas
    (step_reads_back names p.main are writable.2.main kept.1 shallow.main) at.lemmas at.main)
    ∙ ap (λ b. cond b (Ok (formula t f p)) (Err (Member keys.Extra))) count

-- the object of a formula's certificate is read back, whether something is given or not
object_back : (bare : Bool) (names : List (List ℕ)) (t : PlainTarget) (f : PlainFormula) (p : PlainDerivation) → is_empty t.given ≡ bare
    → AreNames names → IsWritable (length names) (formula t f p) → IsRepresentable (formula t f p) → IsShallow (formula t f p)
    → value_certificate names (object_by bare names t f p) ≡ Ok (formula t f p)
unfolding value_certificate version_in
object_back true names t f p none are writable kept shallow =
    let d = object_by true names t f p in
    let parts = target_parts (length names) t writable.0 in
    formula_certificate_back names 1 d t f p are writable kept shallow
    (target_back names 1 d t are parts refl refl (none_given_back names (union t.x t.y) t.given d (eqb-true t.given 0 none)))
    (record { text = refl; defs = refl; lemmas = refl; main = refl }) refl
object_back false names t f p some are writable kept shallow =
    let d = object_by false names t f p in
    let parts = target_parts (length names) t writable.0 in
    formula_certificate_back names 2 d t f p are writable kept shallow
    (target_back names 2 d t are parts refl refl (given_back names d t are parts some refl)) (record { text = refl; defs = refl; lemmas = refl; main = refl })
    refl

-- ---- hedges

all_links_back : (names : List (List ℕ)) (ls : List (ℕ × ℕ)) → AreNames names → All (IsWithin (length names)) ls → 0 < length ls → length ls ≤ 64
    → IsStartBlank ls
    → links_in names (array (link_items names ls)) ≡ Ok ls
all_links_back names [] are within some room blank = absurd (omega (arith, some))
all_links_back names (l ∷ ls) are within some room blank =
    let e : l ≡ (l.0, 0) = ap (λ k. (l.0, k)) blank in
    ap (λ m. links_in names (array (link_items names (m ∷ ls)))) e
    ∙ links_back names l.0 ls are (subst (λ m. All (IsWithin (length names)) (m ∷ ls)) e within) (omega (arith, room))
    ∙ ap (λ m. Ok (m ∷ ls)) (sym e)

-- the object has the members of the hedge
record HasHedge (names : List (List ℕ)) (h : PlainHedge) (d : Data) : Type 0 where
  big : get (codes "big") d ≡ Some (set_value names h.big)
  small : get (codes "small") d ≡ Some (set_value names h.small)
  roots : get (codes "roots") d ≡ Some (set_value names h.roots)
  choice : get (codes "choice") d ≡ Some (array (pair_items names (choices_from 0 h.choice)))
  links : get (codes "links") d ≡ Some (array (link_items names h.links))

hedge_back : (names : List (List ℕ)) (d : Data) (t : PlainTarget) (h : PlainHedge) → AreNames names → IsHedgeWithin (length names) h
    → IsRepresentable (hedge t h) → HasHedge names h d → hedge_in names d ≡ Ok h
unfolding hedge_in
hedge_back names d t h are within kept at =
    ap (λ r. r >>= λ big. member_by keys.Small (codes "small") (set_in names 0) d >>= λ small. member_by keys.Roots (codes "roots") (set_in names 0)
    d >>= λ roots.
    member_by keys.Choice (codes "choice") (choice_in names) d >>= λ choice. member_by keys.Links (codes "links") (links_in names) d >>= λ links.
    Ok (record { big = big; small = small; roots = roots; choice = choice; links = links }))
    (set_back names keys.Big (codes "big") d h.big are within.big at.big)
    ∙ ap (λ r. r >>= λ small. member_by keys.Roots (codes "roots") (set_in names 0) d >>= λ roots.
    member_by keys.Choice (codes "choice") (choice_in names) d >>= λ choice. member_by keys.Links (codes "links") (links_in names) d >>= λ links.
    Ok (record { big = h.big; small = small; roots = roots; choice = choice; links = links }))
    (set_back names keys.Small (codes "small") d h.small are within.small at.small)
    ∙ ap (λ r. r >>= λ roots. member_by keys.Choice (codes "choice") (choice_in names) d >>= λ choice. member_by keys.Links (codes "links") (links_in names)
    d >>= λ links.
    Ok (record { big = h.big; small = h.small; roots = roots; choice = choice; links = links }))
    (set_back names keys.Roots (codes "roots") d h.roots are within.roots at.roots)
    ∙ ap (λ r. r >>= λ choice. member_by keys.Links (codes "links") (links_in names) d >>= λ links.
    Ok (record { big = h.big; small = h.small; roots = h.roots; choice = choice; links = links }))
    (member_back keys.Choice (codes "choice") (choice_in names) d (array (pair_items names (choices_from 0 h.choice))) h.choice at.choice
    (choice_back names h.choice are kept.0 within.choice))
    ∙ ap (λ r. r >>= λ links. Ok (record { big = h.big; small = h.small; roots = h.roots; choice = h.choice; links = links }))
    (member_back keys.Links (codes "links") (links_in names) d (array (link_items names h.links)) h.links at.links
    (all_links_back names h.links are within.links within.some kept.1 kept.2))

hedge_certificate_back : (names : List (List ℕ)) (t : PlainTarget) (h : PlainHedge) → AreNames names → IsWritable (length names) (hedge t h)
    → IsRepresentable (hedge t h)
    → hedge_certificate_in names (certificate_value names (hedge t h)) ≡ Ok (hedge t h)
unfolding hedge_certificate_in
hedge_certificate_back names t h are writable kept =
    let d = certificate_value names (hedge t h) in
    let parts = target_parts (length names) t writable.0.sets in
    ap (λ r. r >>= λ t. hedge_in names d >>= λ h. cond (member_count (as_object d) == 9) (Ok (hedge t h)) (Err (Member keys.Extra)))
    (target_back names 1 d t are parts refl refl (none_given_back names (union t.x t.y) t.given d writable.0.bare))
    ∙ ap (λ r. r >>= λ h. cond (member_count (as_object d) == 9) (Ok (hedge t h)) (Err (Member keys.Extra)))
    (hedge_back names d t h are writable.1 kept (record { big = refl; small = refl; roots = refl; choice = refl; links = refl }))

-- ---- certificates

pub value_back : (names : List (List ℕ)) (c : PlainCertificate) → AreNames names → IsWritable (length names) c → IsRepresentable c → IsShallow c
    → value_certificate names (certificate_value names c) ≡ Ok c
unfolding value_certificate version_in
value_back names (formula t f p) are writable kept shallow = object_back (is_empty t.given) names t f p refl are writable kept shallow
value_back names (hedge t h) are writable kept shallow =
    ap (λ given. (if is_version (version_of given) then answer_in names (version_of given) (certificate_value names (hedge t h)) else Err
    (Version (version_of given)))) writable.0.bare
    ∙ hedge_certificate_back names t h are writable kept
