-- Which answers of `check` are right, of a certificate in parts too: whether its parts make up the effect that it names, in the observed graph of a diagram.
use Rattle.std.specs.Prelude.{ℕ, ◌≡◌, ◌≢◌, ◌<◌, ◌≤◌, List, length, map, Option, Some, None, slice_index, Result, Ok, Err}
use Rattle.mixed_graph.specs.Vocabulary.{MixedGraph}
use Rattle.prob_expr.specs.Vocabulary.{PlainTarget}
use Rattle.derived_parts.specs.declared.fault.PartsFault.{PartsFault}
use Rattle.derived_parts.specs.declared.fault.PartsFault.TheVariants as parts
use Rattle.derived_parts.specs.Vocabulary.{PlainDerivedPart}
use Rattle.certificate.specs.declared.fault.CertFault.{CertFault}
use Rattle.certificate.specs.declared.fault.CertFault.TheVariants as certificates
use Rattle.certificate.specs.Vocabulary.{PlainCertificate, PlainPartCertificate, treated, natural, certificate_in, part_certificate_in}
use Rattle.targets.specs.declared.fault.TargetFault.{TargetFault}
use Rattle.targets.specs.declared.query.Sets.{Sets}
use Rattle.diagram.specs.declared.diagram.Diagram.{Diagram}
use Rattle.experiment_lists.specs.Vocabulary.{Lists}
use Rattle.treated_models.specs.Vocabulary.{name_count}
use Rattle.treated_id.specs.Vocabulary.{IsTreatedTarget}
use Rattle.treated_parts.specs.Vocabulary.{EqualsAmongParts}
use Rattle.natural_id.specs.declared.answers.NaturalFormula.{NaturalFormula}
use Rattle.natural_id.specs.Vocabulary.{EqualsNatural, IsNaturalTarget, parts_view}
use Rattle.part_checks.specs.declared.answers.NaturalPartsFault.{NaturalPartsFault}
use Rattle.part_checks.specs.declared.answers.NaturalPartsFault.TheVariants as nested
use Rattle.part_checks.specs.declared.answers.TreatedFormula.{TreatedFormula}
use Rattle.part_checks.specs.declared.answers.TreatedPartsFault.{TreatedPartsFault}
use Rattle.part_checks.specs.declared.answers.TreatedPartsFault.TheVariants as among
use Rattle.part_checks.specs.Vocabulary.{AcceptsNatural, AcceptsTreated, IsNaturalFault, IsTreatedFault}
use Rattle.treated_command.specs.declared.answer.Asked.{Asked as AskedAmong}
use Rattle.treated_command.specs.Vocabulary.{IsFaultOfSets, IsAskedFor as IsAskedAmong}
use Rattle.natural_command.specs.declared.answer.Asked.{Asked as AskedNested}
use Rattle.natural_command.specs.declared.asking.Question.{Question}
use Rattle.natural_command.specs.Vocabulary.{IsFaultOfQuestion, IsAskedFor as IsAskedNested}
use Rattle.check_command.specs.declared.fault.CertificateFault.{CertificateFault}
use Rattle.check_command.specs.declared.fault.CertificateFault.TheVariants.{TooLong, Faulty, NoMemory}
use Rattle.check_command.specs.Vocabulary.{IsForText as IsForWhole}
use Rattle.check_command.specs.Vocabulary as checks
use Rattle.part_check_command.specs.declared.answer.Answer.{Answer}
use Rattle.part_check_command.specs.declared.answer.Answer.TheVariants.{Whole, Treated, Natural, RefusedTreated, RefusedNatural}
use Rattle.part_check_command.specs.declared.fault.Fault.{Fault}
use Rattle.part_check_command.specs.declared.fault.Fault.TheVariants as faults

-- ---- on the diagram alone

-- the diagram alone has no answer, but a listed name of an experiment may be at fault
abbrev pub IsForFirst : Diagram → Lists → Result Answer TargetFault → Type 0
IsForFirst = checks.IsForFirst

-- ---- an effect among the treated, in the observed graph q

-- its sets
abbrev pub sets_of : PlainTarget → Sets
sets_of t = record { x = record { bits = t.x }; y = record { bits = t.y }; given = record { bits = t.given } }

-- it may be asked for: x acts on none of x and what is given, and with the names of x as observed there are at most 64
pub record IsTreatedQuestion (q : MixedGraph) (t : PlainTarget) : Type 0 where
  pub target : IsTreatedTarget q t.x t.y t.given
  pub few : name_count q.vertices t.x ≤ 64

-- the parts are accepted, and their product, summed over this set, over P(x, given), equals P(y under do(x) | x and given as observed) in each positive
-- model of q, whoever wrote them; that is what is told, with the primed names of x
pub record IsAcceptedAmong (q : MixedGraph) (t : PlainTarget) (ps : List PlainDerivedPart) (a : AskedAmong) (f : TreatedFormula) : Type 0 where
  pub question : IsTreatedQuestion q t
  pub asked : IsAskedAmong q (sets_of t) a
  pub accepted : AcceptsTreated q t.x t.y t.given ps (parts_view f.parts.items)
  pub equals : EqualsAmongParts q t.x t.y t.given f.summed.bits (parts_view f.parts.items)

-- how many lemmas the derivation of each part has
abbrev pub lemma_counts : List PlainDerivedPart → List ℕ
lemma_counts ps = map (λ p. length p.derivation.lemmas) ps

-- how many the derivation at fault has, where these are the numbers; 0 where the fault is another, and nothing where memory was refused
abbrev pub lemmas_at_fault : List ℕ → PartsFault → Option ℕ
lemmas_at_fault counts (parts.Missing k due) = Some 0
lemmas_at_fault counts (parts.Further k) = Some 0
lemmas_at_fault counts (parts.District k due) = Some 0
lemmas_at_fault counts (parts.Derivation k why) = Some (slice_index counts k)
lemmas_at_fault counts parts.NoMemory = None

-- the same of parts of an effect among the treated
abbrev pub treated_lemmas : List ℕ → TreatedPartsFault → Option ℕ
treated_lemmas counts (among.Confounded pair) = Some 0
treated_lemmas counts (among.Parts fault) = lemmas_at_fault counts fault

-- why the parts aren't accepted, the first fault in order; the derivation at fault, if one is, has so many lemmas
pub record IsRefusedAmong (q : MixedGraph) (t : PlainTarget) (ps : List PlainDerivedPart) (why : TreatedPartsFault) (lemmas : ℕ) : Type 0 where
  pub question : IsTreatedQuestion q t
  pub fault : IsTreatedFault q t.x t.y t.given ps why
  pub counted : treated_lemmas (lemma_counts ps) why ≡ Some lemmas

-- ---- a nested effect, in the observed graph q

-- its question
abbrev pub question_of : PlainTarget → (through : ℕ) → Question
question_of t m = record { x = record { bits = t.x }; through = record { bits = m }; y = record { bits = t.y }; given = record { bits = t.given } }

-- it may be asked for: x acts on none of what is given, and with the second names of x there are at most 64
pub record IsNestedQuestion (q : MixedGraph) (t : PlainTarget) (m : ℕ) : Type 0 where
  pub target : IsNaturalTarget q t.x m t.y t.given
  pub few : name_count q.vertices t.x ≤ 64

-- the parts are accepted, and their product, summed over this set, over P(given), equals P(y[x, m[x']] | given) in each positive model of q, whoever wrote
-- them; that is what is told, with the second names of x
pub record IsAcceptedNested (q : MixedGraph) (t : PlainTarget) (m : ℕ) (ps : List PlainDerivedPart) (a : AskedNested) (f : NaturalFormula) : Type 0 where
  pub question : IsNestedQuestion q t m
  pub asked : IsAskedNested q (question_of t m) a
  pub accepted : AcceptsNatural q t.x m t.y t.given ps (parts_view f.parts.items)
  pub equals : EqualsNatural q t.x m t.y t.given f.summed.bits (parts_view f.parts.items)

-- how many lemmas the derivation at fault has
abbrev pub nested_lemmas : List ℕ → NaturalPartsFault → Option ℕ
nested_lemmas counts (nested.Witness w) = Some 0
nested_lemmas counts (nested.Split s) = Some 0
nested_lemmas counts (nested.Parts fault) = lemmas_at_fault counts fault

-- why the parts aren't accepted, the first fault in order; the derivation at fault, if one is, has so many lemmas
pub record IsRefusedNested (q : MixedGraph) (t : PlainTarget) (m : ℕ) (ps : List PlainDerivedPart) (why : NaturalPartsFault) (lemmas : ℕ) : Type 0 where
  pub question : IsNestedQuestion q t m
  pub fault : IsNaturalFault q t.x m t.y t.given ps why
  pub counted : nested_lemmas (lemma_counts ps) why ≡ Some lemmas

-- ---- on the bytes of a certificate

-- the bytes are the text of this certificate in parts, and at most 67,108,864
pub record HoldsParts (names : List (List ℕ)) (bytes : List ℕ) (c : PlainPartCertificate) : Type 0 where
  pub small : length bytes ≤ 67108864
  pub reads : part_certificate_in names bytes ≡ Ok c

-- the bytes are a certificate of an effect among the treated, and this is so of its sets and its parts
pub record IsOfTreated (names : List (List ℕ)) (bytes : List ℕ) (is_so : PlainTarget → List PlainDerivedPart → Type 0) : Type 0 where
  pub target : PlainTarget
  pub parts : List PlainDerivedPart
  pub holds : HoldsParts names bytes (treated target parts)
  pub is : is_so target parts

-- the bytes are a certificate of a nested effect, and this is so of its sets, its mediators and its parts
pub record IsOfNested (names : List (List ℕ)) (bytes : List ℕ) (is_so : PlainTarget → (through : ℕ) → List PlainDerivedPart → Type 0) : Type 0 where
  pub target : PlainTarget
  pub through : ℕ
  pub parts : List PlainDerivedPart
  pub holds : HoldsParts names bytes (natural target through parts)
  pub is : is_so target through parts

-- the answer on the bytes of a certificate, with experiments on the sets zs: of one in parts whether these are accepted, and of any other that of
-- `check_command`
abbrev pub IsForText : MixedGraph → (names : List (List ℕ)) → (zs bytes : List ℕ) → Answer → Type 0
IsForText q names zs bytes (Whole a) = IsForWhole q names zs bytes a
IsForText q names zs bytes (Treated a f) = IsOfTreated names bytes (λ t ps. IsAcceptedAmong q t ps a f)
IsForText q names zs bytes (Natural a f) = IsOfNested names bytes (λ t m ps. IsAcceptedNested q t m ps a f)
IsForText q names zs bytes (RefusedTreated why lemmas) = IsOfTreated names bytes (λ t ps. IsRefusedAmong q t ps why lemmas)
IsForText q names zs bytes (RefusedNatural why lemmas) = IsOfNested names bytes (λ t m ps. IsRefusedNested q t m ps why lemmas)

-- why a text isn't read: the fault of its reading as a certificate of version 1 or 2; or where it is of another version, of its reading as one in parts
abbrev pub IsUnread : Result PlainCertificate CertFault → Result PlainPartCertificate CertFault → CertFault → Type 0
IsUnread (Ok c) in_parts fault = ⊥
IsUnread (Err (certificates.Version version)) in_parts fault = in_parts ≡ Err fault
IsUnread (Err other) in_parts fault = fault ≡ other

-- the bytes are no certificate: their text has a fault
pub record IsFaulty (names : List (List ℕ)) (bytes : List ℕ) (fault : CertFault) : Type 0 where
  pub small : length bytes ≤ 67108864
  pub no_memory : fault ≢ certificates.NoMemory
  pub unread : IsUnread (certificate_in names bytes) (part_certificate_in names bytes) fault

-- what is wrong with the bytes
abbrev pub IsCertificateFault : List (List ℕ) → List ℕ → CertificateFault → Type 0
IsCertificateFault names bytes TooLong = 67108864 < length bytes
IsCertificateFault names bytes (Faulty fault) = IsFaulty names bytes fault
IsCertificateFault names bytes NoMemory = ⊥

-- the same, or why the effect that a certificate in parts names can't be asked for
abbrev pub IsFault : MixedGraph → (names : List (List ℕ)) → (bytes : List ℕ) → Fault → Type 0
IsFault q names bytes (faults.Certificate fault) = IsCertificateFault names bytes fault
IsFault q names bytes (faults.Treated fault) = IsOfTreated names bytes (λ t ps. IsFaultOfSets q names (sets_of t) fault)
IsFault q names bytes (faults.Natural fault) = IsOfNested names bytes (λ t m ps. IsFaultOfQuestion q names (question_of t m) fault)

-- the answer on the bytes of a certificate, or that fault
abbrev pub IsForCertificate : MixedGraph → (names : List (List ℕ)) → (zs bytes : List ℕ) → Result Answer Fault → Type 0
IsForCertificate q names zs bytes (Ok a) = IsForText q names zs bytes a
IsForCertificate q names zs bytes (Err fault) = IsFault q names bytes fault
