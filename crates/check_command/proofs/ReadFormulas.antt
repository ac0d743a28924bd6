-- A formula that was read has no fault, and the sets of lemmas that were read lie below the number of names.
use Rattle.std.proofs.Common.{◌≡◌, ℕ, ◌+◌, Bool, true, false, not, ◌&&◌, List, [], ◌∷◌, ◌++◌, length, Option, Some, None, Result, Ok, Err}
use Rattle.std.proofs.Common.{if◌then◌else◌, is_ok, refl, ap, subst, codes, arith}
use Rattle.std.specs.Prelude.{◌==◌}
use Rattle.prob_expr.specs.declared.checking.ExprFault.{ExprFault}
use Rattle.prob_expr.specs.Vocabulary.{check_tree, cap, fault_of, or_else, fault_in_defs, PlainFormula, PlainTarget}
use Rattle.mixed_graph.specs.Vocabulary.{is_below, is_empty}
use Rattle.prob_expr.specs.Tree.{Tree}
use Rattle.do_derivation.specs.Vocabulary.{are_sets, sets_of, PlainLemma, PlainDerivation}
use Rattle.do_derivation.specs.Plans.{Plan}
use Rattle.expr_text.proofs.Within.{and_true}
use Rattle.serde_json.specs.Data.{Data, Items, no_items, item}
use Rattle.serde_json.specs.Find.{as_object}
use Rattle.step_json.specs.declared.fault.ValueFault.{ValueFault}
use Rattle.step_json.specs.declared.fault.ValueFault.TheVariants.{Form}
use Rattle.step_json.specs.Vocabulary.{each, filled_set_in, step_in, is_end}
use Rattle.certificate.specs.declared.fault.Key.TheVariants as keys
use Rattle.certificate.specs.declared.fault.CertFault.{CertFault}
use Rattle.certificate.specs.declared.fault.CertFault.TheVariants.{NotJson, Member, Version}
use Rattle.certificate.specs.Vocabulary.{◌>>=◌, or_fault, PlainHedge, PlainCertificate, formula, hedge, member_by, expr_in, sound, main_in, def_in, more_defs, defs_in, lemma_of, lemma_items, lemma_in, lemmas_in, target_in, whole, formula_in, derivation_in, hedge_in, member_count, key_count, formula_certificate_in, hedge_certificate_in, is_answer, version_in, answer_in, is_version, value_certificate, json_of, certificate_in}
use Rattle.check_command.specs.Replies.{IsSoundTarget, IsSoundFormula, IsSoundDerivation}
use Rattle.check_command.proofs.ReadTargets.{ok_is, then_ok, value_ok, bind_ok, list_ok, member_ok, both, set_below, filled_new, target_sound}

-- ---- definitions

no_fault : {A : Type 0} (r : Result A ExprFault) → is_ok r ≡ true → fault_of r ≡ None
no_fault (Ok x) h = refl
no_fault (Err e) h = cc h

neither : (a b : Option ExprFault) → a ≡ None → b ≡ None → or_else a b ≡ None
neither a b h k = rw (h, k) refl

first_none : (a b : Option ExprFault) → or_else a b ≡ None → a ≡ None
first_none (Some e) b h = cc h
first_none None b h = refl

second_none : (a b : Option ExprFault) → or_else a b ≡ None → b ≡ None
second_none (Some e) b h = cc h
second_none None b h = h

one_more : (n k : ℕ) (ds : List Tree) (t : Tree) → fault_in_defs n k ds ≡ None → fault_of (check_tree n (Some (cap (k + length ds))) (k + length ds) t 0) ≡ None
    → fault_in_defs n k (ds ++ t ∷ []) ≡ None
one_more n k [] t h new =
    let e : k + 0 ≡ k = omega arith in
    neither (fault_of (check_tree n (Some (cap k)) k t 0)) None (subst (λ j. fault_of (check_tree n (Some (cap j)) j t 0) ≡ None) e new) refl
one_more n k (d ∷ ds) t h new =
    let here = fault_of (check_tree n (Some (cap k)) k d 0) in
    let e : k + length (d ∷ ds) ≡ k + 1 + length ds = omega arith in
    neither here (fault_in_defs n (k + 1) (ds ++ t ∷ [])) (first_none here (fault_in_defs n (k + 1) ds) h)
    (one_more n (k + 1) ds t (second_none here (fault_in_defs n (k + 1) ds) h) (subst (λ j. fault_of (check_tree n (Some (cap j)) j t 0) ≡ None) e new))

def_sound : (names : List (List ℕ)) (k : ℕ) (d : Data) (t : Tree) → def_in names k d ≡ Ok t → fault_of (check_tree (length names) (Some (cap k)) k t 0) ≡ None
def_sound names k d t h =
    let b = value_ok (expr_in names d) (sound names (Some (cap k)) k) t h in
    let s = then_ok (is_ok (check_tree (length names) (Some (cap k)) k b.0 0)) Form (Ok b.0) t b.2 in
    subst (λ e. fault_of (check_tree (length names) (Some (cap k)) k e 0) ≡ None) (ok_is {E = ValueFault} b.0 t s.1)
    (no_fault (check_tree (length names) (Some (cap k)) k b.0 0) s.0)

defs_sound : (names : List (List ℕ)) (before : List Tree) (ds : Items) (all : List Tree) → fault_in_defs (length names) 0 before ≡ None
    → more_defs names before ds ≡ Ok all
    → fault_in_defs (length names) 0 all ≡ None
defs_sound names before no_items all h e = subst (λ l. fault_in_defs (length names) 0 l ≡ None) (ok_is {E = ValueFault} before all e) h
defs_sound names before (item d ds) all h e =
    let b = value_ok (def_in names (length before) d) (λ t. more_defs names (before ++ t ∷ []) ds) all e in
    let z : length before ≡ 0 + length before = omega arith in
    let new = subst (λ j. fault_of (check_tree (length names) (Some (cap j)) j b.0 0) ≡ None) z (def_sound names (length before) d b.0 b.1) in
    defs_sound names (before ++ b.0 ∷ []) ds all (one_more (length names) 0 before b.0 h new) b.2

defs_in_sound : (names : List (List ℕ)) (d : Data) (all : List Tree) → defs_in names d ≡ Ok all → fault_in_defs (length names) 0 all ≡ None
unfolding defs_in
defs_in_sound names d all h = let b = list_ok (more_defs names []) d all h in defs_sound names [] b.0 all refl b.1

formula_sound : (names : List (List ℕ)) (d : Data) (f : PlainFormula) → formula_in names d ≡ Ok f → IsSoundFormula (length names) f
unfolding formula_in
formula_sound names d f h =
    let made : Tree → List Tree → PlainFormula = λ main defs. record { defs = defs; main = main } in
    let m = bind_ok (member_by keys.Formula (codes "formula") (main_in names) d)
    (λ main. member_by keys.Defs (codes "defs") (defs_in names) d >>= λ defs. whole names (made main defs)) f h in
    let ds = bind_ok (member_by keys.Defs (codes "defs") (defs_in names) d) (λ defs. whole names (made m.0 defs)) f m.2 in
    let read = member_ok keys.Defs (codes "defs") (defs_in names) d ds.0 ds.1 in
    let w = then_ok (is_ok (check_tree (length names) None (length ds.0) m.0 0)) (Member keys.Formula) (Ok (made m.0 ds.0)) f ds.2 in
    subst (IsSoundFormula (length names)) (ok_is {E = CertFault} (made m.0 ds.0) f w.1)
    (neither (fault_in_defs (length names) 0 ds.0) (fault_of (check_tree (length names) None (length ds.0) m.0 0)) (defs_in_sound names read.0 ds.0 read.1)
    (no_fault (check_tree (length names) None (length ds.0) m.0 0) w.0))

-- ---- lemmas

abbrev is_set : ℕ → ℕ → Bool
is_set n s = is_below n s && not (is_empty s)

more_sets : (n : ℕ) (ls : List PlainLemma) (l : PlainLemma) → are_sets n (sets_of ls) ≡ true → is_set n l.set ≡ true → are_sets n (sets_of (ls ++ l ∷ []))
    ≡ true
more_sets n [] l h new = both (is_set n l.set) true new refl
more_sets n (k ∷ ks) l h new =
    let parts = and_true (is_set n k.set) (are_sets n (sets_of ks)) h in
    both (is_set n k.set) (are_sets n (sets_of (ks ++ l ∷ []))) parts.0 (more_sets n ks l parts.1 new)

rest_sound : (names : List (List ℕ)) (set : ℕ) (ds : Items) (l : PlainLemma) → lemma_of names set ds ≡ Ok l → set ≡ l.set
rest_sound names set no_items l h = cc h
rest_sound names set (item d ds) l h =
    let made : Plan → PlainLemma = λ p. record { set = set; plan = p } in
    let b = value_ok (step_in names d) (λ p. if is_end ds then Ok (made p) else Err Form) l h in
    let t = then_ok (is_end ds) Form (Ok (made b.0)) l b.2 in
    ap (λ x. x.set) (ok_is {E = ValueFault} (made b.0) l t.1)

items_sound : (names : List (List ℕ)) (ds : Items) (l : PlainLemma) → lemma_items names ds ≡ Ok l → is_set (length names) l.set ≡ true
items_sound names no_items l h = cc h
items_sound names (item d ds) l h =
    let b = value_ok (filled_set_in names 0 d) (λ set. lemma_of names set ds) l h in
    let f = filled_new names 0 d b.0 b.1 in
    subst (λ s. is_set (length names) s ≡ true) (rest_sound names b.0 ds l b.2)
    (both (is_below (length names) b.0) (not (is_empty b.0)) (set_below (length names) 0 b.0 f.members) (ap not f.some))

lemma_sound : (names : List (List ℕ)) (d : Data) (l : PlainLemma) → lemma_in names d ≡ Ok l → is_set (length names) l.set ≡ true
unfolding lemma_in
lemma_sound names d l h = let b = list_ok (lemma_items names) d l h in items_sound names b.0 l b.1

lemmas_sound : (names : List (List ℕ)) (before : List PlainLemma) (ds : Items) (all : List PlainLemma) → are_sets (length names) (sets_of before) ≡ true
    → each (lemma_in names) before ds ≡ Ok all → are_sets (length names) (sets_of all) ≡ true
lemmas_sound names before no_items all h e = subst (λ l. are_sets (length names) (sets_of l) ≡ true) (ok_is {E = ValueFault} before all e) h
lemmas_sound names before (item d ds) all h e =
    let b = value_ok (lemma_in names d) (λ l. each (lemma_in names) (before ++ l ∷ []) ds) all e in
    lemmas_sound names (before ++ b.0 ∷ []) ds all (more_sets (length names) before b.0 h (lemma_sound names d b.0 b.1)) b.2

lemmas_in_sound : (names : List (List ℕ)) (d : Data) (all : List PlainLemma) → lemmas_in names d ≡ Ok all → are_sets (length names) (sets_of all) ≡ true
unfolding lemmas_in
lemmas_in_sound names d all h = let b = list_ok (each (lemma_in names) []) d all h in lemmas_sound names [] b.0 all refl b.1

pub derivation_sound : (names : List (List ℕ)) (d : Data) (p : PlainDerivation) → derivation_in names d ≡ Ok p → IsSoundDerivation (length names) p
unfolding derivation_in
derivation_sound names d p h =
    let made : List PlainLemma → Plan → PlainDerivation = λ lemmas main. record { lemmas = lemmas; main = main } in
    let ls = bind_ok (member_by keys.Lemmas (codes "lemmas") (lemmas_in names) d)
    (λ lemmas. member_by keys.Main (codes "main") (step_in names) d >>= λ main. Ok (made lemmas main)) p h in
    let m = bind_ok (member_by keys.Main (codes "main") (step_in names) d) (λ main. Ok (made ls.0 main)) p ls.2 in
    let read = member_ok keys.Lemmas (codes "lemmas") (lemmas_in names) d ls.0 ls.1 in
    subst (IsSoundDerivation (length names)) (ok_is {E = CertFault} (made ls.0 m.0) p m.2) (lemmas_in_sound names read.0 ls.0 read.1)

-- ---- certificates

pub record IsSoundTriple (n : ℕ) (t : PlainTarget) (f : PlainFormula) (d : PlainDerivation) : Type 0 where
  pub target : IsSoundTarget n t
  pub formula : IsSoundFormula n f
  pub derivation : IsSoundDerivation n d

-- what a certificate that was read keeps
abbrev pub IsSound : ℕ → PlainCertificate → Type 0
IsSound n (formula t f d) = IsSoundTriple n t f d
IsSound n (hedge t h) = IsSoundTarget n t

triple_sound : (n : ℕ) (t : PlainTarget) (f : PlainFormula) (d : PlainDerivation) (c : PlainCertificate) → IsSoundTriple n t f d
    → ◌≡◌ {A = Result PlainCertificate CertFault} (Ok (formula t f d)) (Ok c) → IsSound n c
triple_sound n t f d c h e = subst (IsSound n) (ok_is {E = CertFault} (formula t f d) c e) h

formula_case : (names : List (List ℕ)) (version : ℕ) (d : Data) (c : PlainCertificate) → formula_certificate_in names version d ≡ Ok c
    → IsSound (length names) c
unfolding formula_certificate_in
formula_case names version d c h =
    let end : PlainTarget → PlainFormula → PlainDerivation → Result PlainCertificate CertFault =
    λ t f p. if member_count (as_object d) == key_count version then Ok (formula t f p) else Err (Member keys.Extra) in
    let t = bind_ok (target_in names version d) (λ t. formula_in names d >>= λ f. derivation_in names d >>= λ p. end t f p) c h in
    let f = bind_ok (formula_in names d) (λ f. derivation_in names d >>= λ p. end t.0 f p) c t.2 in
    let p = bind_ok (derivation_in names d) (λ p. end t.0 f.0 p) c f.2 in
    let count = then_ok (member_count (as_object d) == key_count version) (Member keys.Extra) (Ok (formula t.0 f.0 p.0)) c p.2 in
    triple_sound (length names) t.0 f.0 p.0 c
    (record { target = target_sound names version d t.0 t.1; formula = formula_sound names d f.0 f.1; derivation = derivation_sound names d p.0 p.1 }) count.1

hedge_case : (names : List (List ℕ)) (d : Data) (c : PlainCertificate) → hedge_certificate_in names d ≡ Ok c → IsSound (length names) c
unfolding hedge_certificate_in
hedge_case names d c h =
    let end : PlainTarget → PlainHedge → Result PlainCertificate CertFault =
    λ t k. if member_count (as_object d) == 9 then Ok (hedge t k) else Err (Member keys.Extra) in
    let t = bind_ok (target_in names 1 d) (λ t. hedge_in names d >>= λ k. end t k) c h in
    let k = bind_ok (hedge_in names d) (λ k. end t.0 k) c t.2 in
    let count = then_ok (member_count (as_object d) == 9) (Member keys.Extra) (Ok (hedge t.0 k.0)) c k.2 in
    subst (IsSound (length names)) (ok_is {E = CertFault} (hedge t.0 k.0) c count.1) (target_sound names 1 d t.0 t.1)

by_answer : (names : List (List ℕ)) (version : ℕ) (d : Data) (c : PlainCertificate) (p q : Bool)
    → (if p then formula_certificate_in names version d else (if q then hedge_certificate_in names d else Err (Member keys.Answer))) ≡ Ok c
    → IsSound (length names) c
by_answer names version d c true q h = formula_case names version d c h
by_answer names version d c false true h = hedge_case names d c h
by_answer names version d c false false h = cc h

value_sound : (names : List (List ℕ)) (d : Data) (c : PlainCertificate) → value_certificate names d ≡ Ok c → IsSound (length names) c
unfolding value_certificate
value_sound names d c h =
    let v = bind_ok (version_in d) (λ version. if is_version version then answer_in names version d else Err (Version version)) c h in
    let known = then_ok (is_version v.0) (Version v.0) (answer_in names v.0 d) c v.2 in
    by_answer names v.0 d c (is_answer (codes "formula") d) (v.0 == 1 && is_answer (codes "hedge") d) known.1

-- the target, the formula and the lemmas of a certificate that was read are as the check asks them
pub read_sound : (names : List (List ℕ)) (text : List ℕ) (c : PlainCertificate) → certificate_in names text ≡ Ok c → IsSound (length names) c
unfolding certificate_in
read_sound names text c h = let b = bind_ok (or_fault NotJson (json_of text)) (value_certificate names) c h in value_sound names b.0 c b.2
