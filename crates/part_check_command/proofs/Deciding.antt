-- What is decided of the parts is what is right of the bytes that hold them; and what is wrong with bytes that hold none.
use Rattle.std.proofs.Common.{◌≡◌, ◌≤◌, ℕ, true, false, List, length, Some, Result, Ok, Err, IfOk, IfErr, refl, sym, ap, subst, ◌∙◌, true≢false}
use Rattle.finite_models.proofs.Bools.{not_both}
use Rattle.mixed_graph.specs.Vocabulary.{MixedGraph}
use Rattle.prob_expr.specs.Vocabulary.{PlainTarget}
use Rattle.derived_parts.specs.Vocabulary.{PlainDerivedPart}
use Rattle.certificate.specs.declared.fault.CertFault.{CertFault}
use Rattle.certificate.specs.declared.fault.CertFault.TheVariants.{NotJson, Member, Version, TooDeep, Name}
use Rattle.certificate.specs.declared.fault.CertFault.TheVariants as certificates
use Rattle.certificate.specs.Vocabulary.{Fails, PlainCertificate, PlainPartCertificate, treated, natural, part_certificate_in}
use Rattle.part_checks.specs.declared.answers.NaturalPartsFault.{NaturalPartsFault}
use Rattle.part_checks.specs.declared.answers.TreatedPartsFault.{TreatedPartsFault}
use Rattle.part_checks.specs.Vocabulary.{IsNaturalFault, IsTreatedFault}
use Rattle.check_command.specs.declared.fault.CertificateFault.{CertificateFault}
use Rattle.check_command.specs.declared.fault.CertificateFault.TheVariants.{TooLong, Faulty, NoMemory}
use Rattle.check_command.specs.Vocabulary.{IsCertificateFault as IsWholeFault}
use Rattle.check_command.proofs.Using.{unread}
use Rattle.part_check_command.specs.Decisions.{DecidesAmong, DecidesNested, IsFaultAmong, IsFaultNested, IsOfOtherVersion, IsUnreadWhole, UnlessWanting, is_of_other_version}
use Rattle.part_check_command.specs.Faults.{is_memory}
use Rattle.part_check_command.specs.Right.{HoldsParts, IsFault, IsFaulty, IsForText, IsNestedQuestion, IsTreatedQuestion, IsUnread, lemma_counts, nested_lemmas, treated_lemmas}
use Rattle.part_check_command.specs.declared.answer.Answer.{Answer}
use Rattle.part_check_command.specs.declared.answer.Answer.TheVariants.{Whole, Treated, Natural, RefusedTreated, RefusedNatural}
use Rattle.part_check_command.specs.declared.fault.Fault.{Fault}
use Rattle.part_check_command.specs.declared.fault.Fault.TheVariants as faults

-- ---- refusals

-- want of memory alone is no answer
pub wanting_alone : {A : Type 0} (P : Fault → Type 0) (r : Result A Fault) → IfErr r (λ f. is_memory f ≡ true) → IfErr r (UnlessWanting P)
wanting_alone P (Ok a) h = tt
wanting_alone P (Err f) h = λ known. absurd (not_both (is_memory f) h known)

pub refused_among : (q : MixedGraph) (t : PlainTarget) (ps : List PlainDerivedPart) (counts : List ℕ) (why : TreatedPartsFault) → IsTreatedQuestion q t
    → counts ≡ lemma_counts ps → IsTreatedFault q t.x t.y t.given ps why → (r : Result Answer Fault)
    → IfOk r (λ (a : Answer). (n : ℕ) × (treated_lemmas counts why ≡ Some n) × (a ≡ RefusedTreated why n)) → IfOk r (DecidesAmong q t ps)
refused_among q t ps counts why question are fault (Err f) h = tt
refused_among q t ps counts why question are fault (Ok a) h = subst (DecidesAmong q t ps) (sym h.2) (record {
  question = question;
  fault = fault;
  counted = ap (λ l. treated_lemmas l why) (sym are) ∙ h.1;
})

pub refused_nested : (q : MixedGraph) (t : PlainTarget) (m : ℕ) (ps : List PlainDerivedPart) (counts : List ℕ) (why : NaturalPartsFault)
    → IsNestedQuestion q t m → counts ≡ lemma_counts ps → IsNaturalFault q t.x m t.y t.given ps why → (r : Result Answer Fault)
    → IfOk r (λ (a : Answer). (n : ℕ) × (nested_lemmas counts why ≡ Some n) × (a ≡ RefusedNatural why n)) → IfOk r (DecidesNested q t m ps)
refused_nested q t m ps counts why question are fault (Err f) h = tt
refused_nested q t m ps counts why question are fault (Ok a) h = subst (DecidesNested q t m ps) (sym h.2) (record {
  question = question;
  fault = fault;
  counted = ap (λ l. nested_lemmas l why) (sym are) ∙ h.1;
})

-- ---- an effect among the treated

module _ (q : MixedGraph) (names : List (List ℕ)) (bytes : List ℕ) (t : PlainTarget) (ps : List PlainDerivedPart)
    (holds : HoldsParts names bytes (treated t ps)) where
  among_text : (zs : List ℕ) (a : Answer) → DecidesAmong q t ps a → IsForText q names zs bytes a
  among_text zs (Whole a) h = absurd h
  among_text zs (Treated a f) h = record { target = t; parts = ps; holds = holds; is = h }
  among_text zs (Natural a f) h = absurd h
  among_text zs (RefusedTreated why lemmas) h = record { target = t; parts = ps; holds = holds; is = h }
  among_text zs (RefusedNatural why lemmas) h = absurd h

  pub among_answer : (r : Result Answer Fault) → IfOk r (DecidesAmong q t ps) → IfOk r (λ (a : Answer). (zs : List ℕ) → IsForText q names zs bytes a)
  among_answer (Ok a) h = λ zs. among_text zs a h
  among_answer (Err f) h = tt

  among_fault : (f : Fault) → IsFaultAmong q names t f → IsFault q names bytes f
  among_fault (faults.Certificate f) h = absurd h
  among_fault (faults.Treated f) h = record { target = t; parts = ps; holds = holds; is = h }
  among_fault (faults.Natural f) h = absurd h

  pub among_faults : (r : Result Answer Fault) → IfErr r (UnlessWanting (IsFaultAmong q names t)) → IfErr r (UnlessWanting (IsFault q names bytes))
  among_faults (Ok a) h = tt
  among_faults (Err f) h = λ known. among_fault f (h known)

-- ---- a nested effect

module _ (q : MixedGraph) (names : List (List ℕ)) (bytes : List ℕ) (t : PlainTarget) (m : ℕ) (ps : List PlainDerivedPart)
    (holds : HoldsParts names bytes (natural t m ps)) where
  nested_text : (zs : List ℕ) (a : Answer) → DecidesNested q t m ps a → IsForText q names zs bytes a
  nested_text zs (Whole a) h = absurd h
  nested_text zs (Treated a f) h = absurd h
  nested_text zs (Natural a f) h = record { target = t; through = m; parts = ps; holds = holds; is = h }
  nested_text zs (RefusedTreated why lemmas) h = absurd h
  nested_text zs (RefusedNatural why lemmas) h = record { target = t; through = m; parts = ps; holds = holds; is = h }

  pub nested_answer : (r : Result Answer Fault) → IfOk r (DecidesNested q t m ps) → IfOk r (λ (a : Answer). (zs : List ℕ) → IsForText q names zs bytes a)
  nested_answer (Ok a) h = λ zs. nested_text zs a h
  nested_answer (Err f) h = tt

  nested_fault : (f : Fault) → IsFaultNested q names t m f → IsFault q names bytes f
  nested_fault (faults.Certificate f) h = absurd h
  nested_fault (faults.Treated f) h = absurd h
  nested_fault (faults.Natural f) h = record { target = t; through = m; parts = ps; holds = holds; is = h }

  pub nested_faults : (r : Result Answer Fault) → IfErr r (UnlessWanting (IsFaultNested q names t m)) → IfErr r (UnlessWanting (IsFault q names bytes))
  nested_faults (Ok a) h = tt
  nested_faults (Err f) h = λ known. nested_fault f (h known)

-- ---- texts that aren't read

pub other_version : (names : List (List ℕ)) (bytes : List ℕ) (f : CertificateFault) → IsUnreadWhole names bytes f → is_of_other_version f ≡ true
    → IsOfOtherVersion names bytes
other_version names bytes TooLong h e = absurd (cc e)
other_version names bytes (Faulty NotJson) h e = absurd (cc e)
other_version names bytes (Faulty (Member k)) h e = absurd (cc e)
other_version names bytes (Faulty (Version v)) h e = record { version = v; unread = (h refl).reads }
other_version names bytes (Faulty TooDeep) h e = absurd (cc e)
other_version names bytes (Faulty (Name n)) h e = absurd (cc e)
other_version names bytes (Faulty certificates.NoMemory) h e = absurd (cc e)
other_version names bytes NoMemory h e = absurd (cc e)

-- the first reading says it
by_first : (names : List (List ℕ)) (bytes : List ℕ) (f : CertFault) → ((p : Result PlainPartCertificate CertFault) → IsUnread (Err f) p f)
    → IsWholeFault names bytes (Faulty f) → IsFaulty names bytes f
by_first names bytes f same h = record {
  small = h.small;
  no_memory = h.no_memory;
  unread = subst (λ (r : Result PlainCertificate CertFault). IsUnread r (part_certificate_in names bytes) f) (sym h.reads) (same (part_certificate_in names bytes));
}

pub whole_fault : (q : MixedGraph) (names : List (List ℕ)) (bytes : List ℕ) (f : CertificateFault) → IsUnreadWhole names bytes f
    → is_of_other_version f ≡ false → UnlessWanting (IsFault q names bytes) (faults.Certificate f)
whole_fault q names bytes TooLong h e = h
whole_fault q names bytes (Faulty NotJson) h e = λ known. by_first names bytes NotJson (λ p. refl) (h known)
whole_fault q names bytes (Faulty (Member k)) h e = λ known. by_first names bytes (Member k) (λ p. refl) (h known)
whole_fault q names bytes (Faulty (Version v)) h e = absurd (cc e)
whole_fault q names bytes (Faulty TooDeep) h e = λ known. by_first names bytes TooDeep (λ p. refl) (h known)
whole_fault q names bytes (Faulty (Name n)) h e = λ known. by_first names bytes (Name n) (λ p. refl) (h known)
whole_fault q names bytes (Faulty certificates.NoMemory) h e = λ known. absurd (cc known)
whole_fault q names bytes NoMemory h e = λ known. absurd (cc known)

-- the second reading says it
pub parts_fault : (q : MixedGraph) (names : List (List ℕ)) (bytes : List ℕ) (f : CertFault) → length bytes ≤ 67108864 → IsOfOtherVersion names bytes
    → Fails f (part_certificate_in names bytes) → UnlessWanting (IsFault q names bytes) (faults.Certificate (Faulty f))
parts_fault q names bytes f small version fails other = record {
  small = small;
  no_memory = known;
  unread = subst (λ (r : Result PlainCertificate CertFault). IsUnread r (part_certificate_in names bytes) f) (sym version.unread)
      (unread f (part_certificate_in names bytes) fails known);
}
  where
    known : f ≡ certificates.NoMemory → ⊥
    known e = true≢false (sym (ap (λ (k : CertFault). is_memory (faults.Certificate (Faulty k))) e) ∙ other)
