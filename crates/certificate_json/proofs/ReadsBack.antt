-- What is written is read again.
use Rattle.std.proofs.Common.{◌≡◌, ℕ, List, [], ◌∷◌, ◌++◌, length, Option, Some, None, option_map, option_and_then, Result, Ok, Err, IfOk, refl, sym, ap, ◌∙◌}
use Rattle.json.specs.Json.{Json}
use Rattle.mixed_graph.specs.Vocabulary.{AreNames}
use Rattle.serde_json.specs.Data.{Data, object, Members, no_members, put}
use Rattle.serde_json.specs.Find.{get, get_member}
use Rattle.serde_json.specs.Read.{of_json, of_members}
use Rattle.serde_json.proofs.Views.{get_member-put}
use Rattle.step_json.specs.Reading as value
use Rattle.step_json.specs.Vocabulary.{or_form, set_in, step_in}
use Rattle.certificate.specs.declared.fault.CertFault.TheVariants.{NotJson}
use Rattle.certificate.specs.Vocabulary.{PlainCertificate, ◌>>=◌, or_fault, value_certificate, certificate_in}
use Rattle.answer_json.specs.Vocabulary.{members_of}
use Rattle.certificate_json.specs.Certificates.{certificate_json, certificate_text}
use Rattle.certificate_json.specs.Kept.{IsRepresentable}
use Rattle.certificate_json.specs.Writable.{IsWritable, IsShallow}
use Rattle.certificate_json.specs.ReadsBack.{SetReadsBack, StepReadsBack, ValueReadsBack, MemberReadsBack, TextReadsBack}
use Rattle.certificate_json.proofs.Seen.{read_printed}
use Rattle.certificate_json.proofs.StepsSeen.{set_seen, step_seen}
use Rattle.certificate_json.proofs.CertificatesSeen.{certificate_seen}
use Rattle.certificate_json.proofs.SetsBack.{set_reads_back}
use Rattle.certificate_json.proofs.StepsBack.{step_reads_back}
use Rattle.certificate_json.proofs.CertificatesBack.{value_back}
use Rattle.certificate_json.proofs.Values.{certificate_value}

pub set_back : SetReadsBack
set_back names barred set are within apart =
    ap (λ o. value.◌>>=◌ (or_form o) (set_in names barred)) (set_seen names set 0 are).seen ∙ set_reads_back names barred set are within apart

pub step_back : StepReadsBack
step_back names p are within short nests =
    ap (λ o. value.◌>>=◌ (or_form o) (step_in names)) (step_seen names p are short).seen ∙ step_reads_back names p are within short nests

pub certificate_back : ValueReadsBack
certificate_back names c are writable kept shallow =
    ap (λ o. or_fault NotJson o >>= value_certificate names) (certificate_seen names c are kept shallow).seen ∙ value_back names c are writable kept shallow

-- what is put last into an object is found there
last_member : (before : List (List ℕ × Json)) (k : List ℕ) (j : Json) (v : Data) (found ms : Members) → of_json j ≡ Some v
    → of_members (members_of (before ++ (k, j) ∷ [])) found ≡ Some ms
    → get_member k ms ≡ Some v
last_member [] k j v found ms is h =
    let same : Some (put k v found) ≡ Some ms = sym (ap (option_and_then (λ e. Some (put k e found))) is) ∙ h in
    sym (ap (option_and_then (get_member k)) same) ∙ get_member-put k v found
last_member (m ∷ before) k j v found ms is h = go (of_json m.1) h (λ d e. last_member before k j v (put m.0 d found) ms is e)
  where
    rest : Data → Option Members
    rest d = of_members (members_of (before ++ (k, j) ∷ [])) (put m.0 d found)

    go : (o : Option Data) → option_and_then rest o ≡ Some ms → ((d : Data) → rest d ≡ Some ms → get_member k ms ≡ Some v) → get_member k ms ≡ Some v
    go None e later = absurd cc
    go (Some d) e later = later d e

pub member_back : MemberReadsBack
member_back names c before name d are writable kept shallow h = go (of_members (members_of (before ++ (name, certificate_json names c) ∷ [])) no_members) refl h
  where
    v : Data
    v = certificate_value names c

    go : (o : Option Members) → of_members (members_of (before ++ (name, certificate_json names c) ∷ [])) no_members ≡ o → option_map object o ≡ Some d
        → option_map (value_certificate names) (get name d) ≡ Some (Ok c)
    go None e is = absurd cc
    go (Some ms) e is =
        let found = last_member before name (certificate_json names c) v no_members ms (certificate_seen names c are kept shallow).seen e in
        sym (ap (λ o. option_map (value_certificate names) (option_and_then (get name) o)) is) ∙ ap (option_map (value_certificate names)) found
        ∙ ap (λ r. Some r) (value_back names c are writable kept shallow)

pub text_back : TextReadsBack
unfolding certificate_in
text_back names c are writable kept shallow =
    ap (λ o. or_fault NotJson o >>= value_certificate names)
    (read_printed (certificate_json names c) (certificate_value names c) (certificate_seen names c are kept shallow))
    ∙ value_back names c are writable kept shallow

-- what was written, if it was
pub written_back : {A E : Type 0} (r : Result A E) (names : List (List ℕ)) (c : PlainCertificate) → AreNames names → IsRepresentable c
    → IsWritable (length names) c → IsShallow c
    → IfOk r (λ v. certificate_in names (certificate_text names c) ≡ Ok c)
written_back (Ok v) names c are kept writable shallow = text_back names c are writable kept shallow
written_back (Err e) names c are kept writable shallow = tt
