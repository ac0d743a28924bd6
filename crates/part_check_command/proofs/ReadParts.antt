-- The sets and the lemmas of a certificate in parts that was read are as the checks ask them; and its version is neither 1 nor 2.
use Rattle.std.proofs.Common.{◌≡◌, ℕ, Bool, true, false, ◌||◌, List, [], ◌∷◌, ◌++◌, length, Result, Ok, Err, if◌then◌else◌, sym, ap, subst, ◌∙◌, codes, arith}
use Rattle.std.specs.Prelude.{◌==◌}
use Rattle.mixed_graph.specs.Vocabulary.{has, union, Apart}
use Rattle.mixed_graph.proofs.MaskLaws.{has_join}
use Rattle.prob_expr.specs.Vocabulary.{PlainFormula, PlainTarget}
use Rattle.do_rules.specs.Vocabulary.{AreThreeSets, AreFourSets}
use Rattle.do_derivation.specs.Vocabulary.{PlainDerivation}
use Rattle.serde_json.specs.Data.{Data, Items, no_items, item}
use Rattle.serde_json.specs.Find.{get, as_array, as_object}
use Rattle.step_json.specs.Vocabulary.{set_in, filled_set_in}
use Rattle.derived_parts.specs.Vocabulary.{AreSound, IsSound, PlainDerivedPart}
use Rattle.certificate.specs.declared.fault.Key.TheVariants as keys
use Rattle.certificate.specs.declared.fault.CertFault.{CertFault}
use Rattle.certificate.specs.declared.fault.CertFault.TheVariants.{NotJson, Member, Version}
use Rattle.certificate.specs.Vocabulary.{◌>>=◌, or_fault, PlainPartCertificate, treated, natural, member_by, member_count, is_answer, is_version, version_in, answer_in, formula_in, derivation_in, json_of, part_in, more_parts, part_list_in, parts_in, part_target_in, treated_certificate_in, natural_certificate_in, part_answer_in, value_certificate, part_value_certificate, certificate_in, part_certificate_in}
use Rattle.natural_command.proofs.Naming.{turned}
use Rattle.check_command.proofs.ReadTargets.{AreNew, ok_is, then_ok, bind_ok, member_ok, set_new, filled_new}
use Rattle.check_command.proofs.ReadFormulas.{derivation_sound}

-- ---- parts

part_sound : (names : List (List ℕ)) (d : Data) (p : PlainDerivedPart) → part_in names d ≡ Ok p → IsSound (length names) p
unfolding part_in
part_sound names d p h =
    let made : ℕ → PlainFormula → PlainDerivation → PlainDerivedPart = λ c f e. record { district = c; formula = f; derivation = e } in
    let end : ℕ → PlainFormula → PlainDerivation → Result PlainDerivedPart CertFault =
    λ c f e. if member_count (as_object d) == 5 then Ok (made c f e) else Err (Member keys.Extra) in
    let c = bind_ok (member_by keys.District (codes "district") (filled_set_in names 0) d)
    (λ c. formula_in names d >>= λ f. derivation_in names d >>= λ e. end c f e) p h in
    let f = bind_ok (formula_in names d) (λ f. derivation_in names d >>= λ e. end c.0 f e) p c.2 in
    let e = bind_ok (derivation_in names d) (λ e. end c.0 f.0 e) p f.2 in
    let count = then_ok (member_count (as_object d) == 5) (Member keys.Extra) (Ok (made c.0 f.0 e.0)) p e.2 in
    subst (IsSound (length names)) (ok_is {E = CertFault} (made c.0 f.0 e.0) p count.1) (derivation_sound names d e.0 e.1)

sound_more : (n : ℕ) (ps : List PlainDerivedPart) (p : PlainDerivedPart) → AreSound n ps → IsSound n p → AreSound n (ps ++ p ∷ [])
sound_more n [] p h k = (k, tt)
sound_more n (q ∷ ps) p h k = (h.0, sound_more n ps p h.1 k)

more_sound : (names : List (List ℕ)) (before : List PlainDerivedPart) (ds : Items) (all : List PlainDerivedPart) → AreSound (length names) before
    → more_parts names before ds ≡ Ok all → AreSound (length names) all
more_sound names before no_items all h e = subst (AreSound (length names)) (ok_is {E = CertFault} before all e) h
more_sound names before (item d ds) all h e =
    let b = bind_ok (part_in names d) (λ p. more_parts names (before ++ p ∷ []) ds) all e in
    more_sound names (before ++ b.0 ∷ []) ds all (sound_more (length names) before b.0 h (part_sound names d b.0 b.1)) b.2

parts_sound : (names : List (List ℕ)) (d : Data) (ps : List PlainDerivedPart) → parts_in names d ≡ Ok ps → AreSound (length names) ps
parts_sound names d ps h =
    let v = bind_ok (or_fault (Member keys.Parts) (get (codes "parts") d)) (part_list_in names) ps h in
    let l = bind_ok (or_fault (Member keys.Parts) (as_array v.0)) (more_parts names []) ps v.2 in
    more_sound names [] l.0 ps tt l.2

-- ---- sets

neither : (a b : Bool) → (a || b) ≡ false → (a ≡ false) × (b ≡ false)
neither a b e = (grind (arith, e), grind (arith, e))

-- a set that is new beside a union is apart from both
new_first : (n x y z : ℕ) → AreNew n (union x y) z → Apart (has x) (has z)
new_first n x y z h = turned (has z) (has x) (λ v e. (neither (has x v) (has y v) (sym (has_join x y v) ∙ h.apart v e)).0)

new_second : (n x y z : ℕ) → AreNew n (union x y) z → Apart (has y) (has z)
new_second n x y z h = turned (has z) (has y) (λ v e. (neither (has x v) (has y v) (sym (has_join x y v) ∙ h.apart v e)).1)

target_sets : (names : List (List ℕ)) (d : Data) (t : PlainTarget) → part_target_in names d ≡ Ok t
    → AreThreeSets (length names) (has t.x) (has t.y) (has t.given)
unfolding part_target_in
target_sets names d t h =
    let n = length names in
    let made : ℕ → ℕ → ℕ → PlainTarget = λ x y given. record { x = x; y = y; given = given } in
    let xs = bind_ok (member_by keys.X (codes "x") (filled_set_in names 0) d)
    (λ x. member_by keys.Y (codes "y") (filled_set_in names x) d >>= λ y.
    member_by keys.Given (codes "given") (set_in names (union x y)) d >>= λ given. Ok (made x y given)) t h in
    let x = member_ok keys.X (codes "x") (filled_set_in names 0) d xs.0 xs.1 in
    let ys = bind_ok (member_by keys.Y (codes "y") (filled_set_in names xs.0) d)
    (λ y. member_by keys.Given (codes "given") (set_in names (union xs.0 y)) d >>= λ given. Ok (made xs.0 y given)) t xs.2 in
    let y = member_ok keys.Y (codes "y") (filled_set_in names xs.0) d ys.0 ys.1 in
    let gs = bind_ok (member_by keys.Given (codes "given") (set_in names (union xs.0 ys.0)) d) (λ given. Ok (made xs.0 ys.0 given)) t ys.2 in
    let given = member_ok keys.Given (codes "given") (set_in names (union xs.0 ys.0)) d gs.0 gs.1 in
    let new_x = (filled_new names 0 x.0 xs.0 x.1).members in
    let new_y = (filled_new names xs.0 y.0 ys.0 y.1).members in
    let new_given = set_new names (union xs.0 ys.0) given.0 gs.0 given.1 in
    subst (λ (s : PlainTarget). AreThreeSets n (has s.x) (has s.y) (has s.given)) (ok_is {E = CertFault} (made xs.0 ys.0 gs.0) t gs.2) (record {
      x_within = new_x.low;
      y_within = new_y.low;
      w_within = new_given.low;
      x_y = turned (has ys.0) (has xs.0) new_y.apart;
      x_w = new_first n xs.0 ys.0 gs.0 new_given;
      y_w = new_second n xs.0 ys.0 gs.0 new_given;
    })

-- mediators beside these sets
four_sets : (n x y given m : ℕ) → AreThreeSets n (has x) (has y) (has given) → AreNew n (union (union x y) given) m
    → AreFourSets n (has x) (has y) (has m) (has given)
four_sets n x y given m s new = record {
  x_within = s.x_within;
  y_within = s.y_within;
  z_within = new.low;
  w_within = s.w_within;
  x_y = s.x_y;
  x_z = turned (has m) (has x) (λ v e. (neither (has x v) (has y v) (sym (has_join x y v) ∙ (off v e).0)).0);
  x_w = s.x_w;
  y_z = turned (has m) (has y) (λ v e. (neither (has x v) (has y v) (sym (has_join x y v) ∙ (off v e).0)).1);
  y_w = s.y_w;
  z_w = λ v e. (off v e).1;
}
  where
    off : (v : ℕ) → has m v ≡ true → (has (union x y) v ≡ false) × (has given v ≡ false)
    off v e = neither (has (union x y) v) (has given v) (sym (has_join (union x y) given v) ∙ new.apart v e)

-- ---- certificates

-- what a certificate in parts that was read keeps
pub record IsSoundTreated (n : ℕ) (t : PlainTarget) (ps : List PlainDerivedPart) : Type 0 where
  pub sets : AreThreeSets n (has t.x) (has t.y) (has t.given)
  pub parts : AreSound n ps

pub record IsSoundNested (n : ℕ) (t : PlainTarget) (m : ℕ) (ps : List PlainDerivedPart) : Type 0 where
  pub sets : AreFourSets n (has t.x) (has t.y) (has m) (has t.given)
  pub parts : AreSound n ps

abbrev pub IsSoundInParts : ℕ → PlainPartCertificate → Type 0
IsSoundInParts n (treated t ps) = IsSoundTreated n t ps
IsSoundInParts n (natural t m ps) = IsSoundNested n t m ps

treated_case : (names : List (List ℕ)) (d : Data) (c : PlainPartCertificate) → treated_certificate_in names d ≡ Ok c → IsSoundInParts (length names) c
unfolding treated_certificate_in
treated_case names d c h =
    let end : PlainTarget → List PlainDerivedPart → Result PlainPartCertificate CertFault =
    λ t ps. if member_count (as_object d) == 6 then Ok (treated t ps) else Err (Member keys.Extra) in
    let t = bind_ok (part_target_in names d) (λ t. parts_in names d >>= λ ps. end t ps) c h in
    let ps = bind_ok (parts_in names d) (λ ps. end t.0 ps) c t.2 in
    let count = then_ok (member_count (as_object d) == 6) (Member keys.Extra) (Ok (treated t.0 ps.0)) c ps.2 in
    subst (IsSoundInParts (length names)) (ok_is {E = CertFault} (treated t.0 ps.0) c count.1)
    (record { sets = target_sets names d t.0 t.1; parts = parts_sound names d ps.0 ps.1 })

natural_case : (names : List (List ℕ)) (d : Data) (c : PlainPartCertificate) → natural_certificate_in names d ≡ Ok c → IsSoundInParts (length names) c
unfolding natural_certificate_in
natural_case names d c h =
    let end : PlainTarget → ℕ → List PlainDerivedPart → Result PlainPartCertificate CertFault =
    λ t m ps. if member_count (as_object d) == 7 then Ok (natural t m ps) else Err (Member keys.Extra) in
    let barred : PlainTarget → ℕ = λ t. union (union t.x t.y) t.given in
    let t = bind_ok (part_target_in names d)
    (λ t. member_by keys.Through (codes "through") (filled_set_in names (barred t)) d >>= λ m. parts_in names d >>= λ ps. end t m ps) c h in
    let m = bind_ok (member_by keys.Through (codes "through") (filled_set_in names (barred t.0)) d)
    (λ m. parts_in names d >>= λ ps. end t.0 m ps) c t.2 in
    let set = member_ok keys.Through (codes "through") (filled_set_in names (barred t.0)) d m.0 m.1 in
    let ps = bind_ok (parts_in names d) (λ ps. end t.0 m.0 ps) c m.2 in
    let count = then_ok (member_count (as_object d) == 7) (Member keys.Extra) (Ok (natural t.0 m.0 ps.0)) c ps.2 in
    subst (IsSoundInParts (length names)) (ok_is {E = CertFault} (natural t.0 m.0 ps.0) c count.1) (record {
      sets = four_sets (length names) t.0.x t.0.y t.0.given m.0 (target_sets names d t.0 t.1) (filled_new names (barred t.0) set.0 m.0 set.1).members;
      parts = parts_sound names d ps.0 ps.1;
    })

by_answer : (names : List (List ℕ)) (d : Data) (c : PlainPartCertificate) (p q : Bool)
    → (if p then treated_certificate_in names d else (if q then natural_certificate_in names d else Err (Member keys.Answer))) ≡ Ok c
    → IsSoundInParts (length names) c
by_answer names d c true q h = treated_case names d c h
by_answer names d c false true h = natural_case names d c h
by_answer names d c false false h = cc h

-- the value that was read, with its version
pub record IsOfVersion (names : List (List ℕ)) (text : List ℕ) (c : PlainPartCertificate) : Type 0 where
  pub value : Data
  pub is_json : or_fault NotJson (json_of text) ≡ Ok value
  pub version : version_in value ≡ Ok 3
  pub answer : part_answer_in names value ≡ Ok c

value_of_version : (names : List (List ℕ)) (text : List ℕ) (d : Data) (c : PlainPartCertificate) → or_fault NotJson (json_of text) ≡ Ok d
    → part_value_certificate names d ≡ Ok c → IsOfVersion names text c
unfolding part_value_certificate
value_of_version names text d c is h =
    let v = bind_ok (version_in d) (λ version. if version == 3 then part_answer_in names d else Err (Version version)) c h in
    let three = then_ok (v.0 == 3) (Version v.0) (part_answer_in names d) c v.2 in
    record {
      value = d;
      is_json = is;
      version = v.1 ∙ ap Ok (same v.0 three.0);
      answer = three.1;
    }
  where
    same : (k : ℕ) → (k == 3) ≡ true → k ≡ 3
    same k e = grind (arith, e)

of_version : (names : List (List ℕ)) (text : List ℕ) (c : PlainPartCertificate) → part_certificate_in names text ≡ Ok c → IsOfVersion names text c
unfolding part_certificate_in
of_version names text c h =
    let b = bind_ok (or_fault NotJson (json_of text)) (part_value_certificate names) c h in value_of_version names text b.0 c b.1 b.2

-- the sets and the lemmas of a certificate in parts that was read are as the checks ask them
pub parts_read_sound : (names : List (List ℕ)) (text : List ℕ) (c : PlainPartCertificate) → part_certificate_in names text ≡ Ok c
    → IsSoundInParts (length names) c
parts_read_sound names text c h =
    let is = of_version names text c h in
    by_answer names is.value c (is_answer (codes "treated") is.value) (is_answer (codes "natural") is.value) is.answer

-- as a certificate of version 1 or 2 it isn't read
whole_value : (names : List (List ℕ)) (d : Data) → version_in d ≡ Ok 3 → value_certificate names d ≡ Err (Version 3)
unfolding value_certificate
whole_value names d is = ap (λ r. r >>= (λ version. if is_version version then answer_in names version d else Err (Version version))) is

whole_text : (names : List (List ℕ)) (text : List ℕ) (d : Data) → or_fault NotJson (json_of text) ≡ Ok d → certificate_in names text ≡ value_certificate names d
unfolding certificate_in
whole_text names text d is = ap (λ r. r >>= value_certificate names) is

pub versions_apart : (names : List (List ℕ)) (text : List ℕ) (c : PlainPartCertificate) → part_certificate_in names text ≡ Ok c
    → certificate_in names text ≡ Err (Version 3)
versions_apart names text c h =
    let is = of_version names text c h in whole_text names text is.value is.is_json ∙ whole_value names is.value is.version
