-- Right answers of a certificate end alike: a text is read in one way, and parts that are accepted have no fault.
use Rattle.std.proofs.Common.{◌≡◌, ◌≤◌, ◌<◌, ◌+◌, ◌⊎◌, ℕ, Bool, true, false, List, [], ◌∷◌, length, Some, Result, Ok, Err, inl, inr, refl, sym, ap, ap₂, subst, ◌∙◌, arith}
use Rattle.std.specs.Prelude.{nat_lt}
use Rattle.mixed_graph.specs.Vocabulary.{has, MixedGraph, union}
use Rattle.finite_models.proofs.Bools.{not_both}
use Rattle.hedge.specs.Vocabulary.{AreDistricts, AreDistrictsOf}
use Rattle.identification_theory.proofs.Unique.{one_set}
use Rattle.identify.proofs.Orders.{districts_by}
use Rattle.prob_expr.specs.Vocabulary.{PlainTarget}
use Rattle.do_derivation.proofs.Exact.{accepts_either}
use Rattle.derived_parts.specs.declared.fault.PartsFault.{PartsFault}
use Rattle.derived_parts.specs.declared.fault.PartsFault.TheVariants.{Missing, Further, District, Derivation, NoMemory}
use Rattle.derived_parts.specs.Vocabulary.{AreAccepted, IsPartsFault, PlainDerivedPart, UnlessMemory, district_target}
use Rattle.natural_id.specs.Vocabulary.{PlainPart}
use Rattle.part_checks.specs.declared.answers.NaturalPartsFault.{NaturalPartsFault}
use Rattle.part_checks.specs.declared.answers.NaturalPartsFault.TheVariants as nested
use Rattle.part_checks.specs.declared.answers.TreatedPartsFault.{TreatedPartsFault}
use Rattle.part_checks.specs.declared.answers.TreatedPartsFault.TheVariants as among
use Rattle.part_checks.specs.Vocabulary.{AcceptsNatural, AcceptsTreated, IsNaturalFault, IsTreatedFault}
use Rattle.certificate.specs.declared.fault.CertFault.{CertFault}
use Rattle.certificate.specs.declared.fault.CertFault.TheVariants as certificates
use Rattle.certificate.specs.Vocabulary.{PlainCertificate, PlainPartCertificate, certificate_in, part_certificate_in}
use Rattle.certificate.specs.Plain as plain
use Rattle.replies.specs.declared.outcome.Outcome.{Outcome}
use Rattle.replies.specs.declared.outcome.Outcome.TheVariants.{Yes, No, Graph, Second}
use Rattle.told.specs.Vocabulary.{outcome_in}
use Rattle.treated_command.specs.declared.fault.TreatedFault.{TreatedFault}
use Rattle.treated_command.specs.declared.fault.TreatedFault.TheVariants as treated_faults
use Rattle.treated_command.specs.Vocabulary.{IsFaultOfSets}
use Rattle.natural_command.specs.declared.fault.NaturalFault.{NaturalFault}
use Rattle.natural_command.specs.declared.fault.NaturalFault.TheVariants as natural_faults
use Rattle.natural_command.specs.Vocabulary.{IsFaultOfQuestion}
use Rattle.check_command.specs.declared.answer.Answer.{Answer as CheckAnswer}
use Rattle.check_command.specs.declared.fault.CertificateFault.TheVariants.{TooLong, Faulty, NoMemory}
use Rattle.check_command.specs.Vocabulary.{HoldsCertificate, IsForText, of_formula, of_hedge, check_telling}
use Rattle.check_command.proofs.Exclusive.{certificate_alike}
use Rattle.part_check_command.specs.Faults.{part_check_refusal}
use Rattle.part_check_command.specs.Right.{HoldsParts, IsForCertificate, IsNestedQuestion, IsTreatedQuestion, IsUnread, lemmas_at_fault, nested_lemmas, question_of, sets_of, treated_lemmas}
use Rattle.part_check_command.specs.Telling.{part_check_telling}
use Rattle.part_check_command.specs.declared.answer.Answer.{Answer}
use Rattle.part_check_command.specs.declared.answer.Answer.TheVariants.{Whole, Treated, Natural, RefusedTreated, RefusedNatural}
use Rattle.part_check_command.specs.declared.fault.Fault.{Fault}
use Rattle.part_check_command.specs.declared.fault.Fault.TheVariants as faults
use Rattle.part_check_command.proofs.ReadParts.{versions_apart}

-- ---- parts that are accepted have no fault

-- an order gives one list of districts
districts_one : (g : MixedGraph) (d seen : ℕ) (o ts us : List ℕ) → AreDistricts g d seen o ts → AreDistricts g d seen o us → ts ≡ us
districts_one g d seen _ _ _ AreDistricts.none AreDistricts.none = refl
districts_one g d seen _ _ _ (AreDistricts.skip {o = o} {ts = ts} q r) (AreDistricts.skip {ts = us} q2 r2) = districts_one g d seen o ts us r r2
districts_one g d seen _ _ _ (AreDistricts.skip {v = v} q r) (AreDistricts.take i n k r2) = absurd (pick q)
  where
    pick : (has d v ≡ false) ⊎ (has seen v ≡ true) → ⊥
    pick (inl e) = not_both (has d v) i e
    pick (inr e) = not_both (has seen v) e n
districts_one g d seen _ _ _ (AreDistricts.take {v = v} i n k r) (AreDistricts.skip q r2) = absurd (pick q)
  where
    pick : (has d v ≡ false) ⊎ (has seen v ≡ true) → ⊥
    pick (inl e) = not_both (has d v) i e
    pick (inr e) = not_both (has seen v) e n
districts_one g d seen _ _ _ (AreDistricts.take {v = v} {t = t} {o = o} {ts = ts} i n k r) (AreDistricts.take {t = u} {ts = us} i2 n2 k2 r2) =
    let s : t ≡ u = one_set t u _ k k2 in
    ap₂ (λ x y. x ∷ y) s (districts_one g d (union seen t) o ts us r (subst (λ z. AreDistricts g d (union seen z) o us) (sym s) r2))

one_list : (g : MixedGraph) (d e : ℕ) (ts us : List ℕ) → d ≡ e → AreDistrictsOf g d ts → AreDistrictsOf g e us → ts ≡ us
one_list g d e ts us same a b = districts_one g d 0 a.order ts us a.districts
    (districts_by g d a.order us a.is_order (subst (λ s. AreDistrictsOf g s us) (sym same) b))

parts_either : (g : MixedGraph) (k : ℕ) (cs : List ℕ) (ps : List PlainDerivedPart) (why : PartsFault) → AreAccepted g cs ps → IsPartsFault g k cs ps why → ⊥
parts_either g k [] [] why a f = f
parts_either g k [] (p ∷ ps) why a f = a
parts_either g k (c ∷ cs) [] why a f = a
parts_either g k (c ∷ cs) (p ∷ ps) why a (inl (inl f)) = f.0 a.0.district
parts_either g k (c ∷ cs) (p ∷ ps) why a (inl (inr f)) =
    accepts_either g [] (district_target g c) p.formula p.derivation f.1.0 a.0.accepted f.1.1
parts_either g k (c ∷ cs) (p ∷ ps) why a (inr f) = parts_either g (k + 1) cs ps why a.1 f.1

-- a fault with a number of lemmas isn't want of memory
told_fault : (counts : List ℕ) (n : ℕ) (why : PartsFault) (P : Type 0) → lemmas_at_fault counts why ≡ Some n → UnlessMemory why P → P
told_fault counts n (Missing k due) P e h = h
told_fault counts n (Further k) P e h = h
told_fault counts n (District k due) P e h = h
told_fault counts n (Derivation k why) P e h = h
told_fault counts n NoMemory P e h = absurd (cc e)

treated_either : (g : MixedGraph) (x y z : ℕ) (ps : List PlainDerivedPart) (qs : List PlainPart) (counts : List ℕ) (n : ℕ) (why : TreatedPartsFault)
    → AcceptsTreated g x y z ps qs → treated_lemmas counts why ≡ Some n → IsTreatedFault g x y z ps why → ⊥
treated_either g x y z ps qs counts n (among.Confounded pair) a e f = a.clear (record {
  ancestors = f.a;
  are = f.ancestors;
  treatment = pair.treatment;
  child = pair.child;
  treated = f.pair.treated;
  arrow = f.pair.arrow;
  linked = f.pair.linked;
})
treated_either g x y z ps qs counts n (among.Parts why) a e f =
    let h = told_fault counts n why _ e f in
    let own = a.parts in
    let same : own.sets ≡ h.sets = one_list g own.a h.a own.sets h.sets (one_set own.a h.a _ own.are.ancestors h.are.ancestors) own.are.districts h.are.districts in
    parts_either g 0 h.sets ps why (subst (λ cs. AreAccepted g cs ps) same own.accepted) h.fault

natural_either : (g : MixedGraph) (x m y z : ℕ) (ps : List PlainDerivedPart) (qs : List PlainPart) (counts : List ℕ) (n : ℕ) (why : NaturalPartsFault)
    → AcceptsNatural g x m y z ps qs → nested_lemmas counts why ≡ Some n → IsNaturalFault g x m y z ps why → ⊥
natural_either g x m y z ps qs counts n (nested.Witness w) a e f = a.clear (inl (w, f))
natural_either g x m y z ps qs counts n (nested.Split s) a e f = a.clear (inr (s, f.0))
natural_either g x m y z ps qs counts n (nested.Parts why) a e f =
    let h = told_fault counts n why _ e f in
    let own = a.parts in
    let same : own.sets ≡ h.sets = one_list g own.d h.d own.sets h.sets (one_set own.d h.d _ own.are.ancestors h.are.ancestors) own.are.districts h.are.districts in
    parts_either g 0 h.sets ps why (subst (λ cs. AreAccepted g cs ps) same own.accepted) h.fault

-- ---- an effect that may be asked for has no fault

treated_no_fault : (q : MixedGraph) (names : List (List ℕ)) (t : PlainTarget) (fault : TreatedFault) → IsTreatedQuestion q t
    → IsFaultOfSets q names (sets_of t) fault → ⊥
treated_no_fault q names t (treated_faults.Listed fault) h f = f
treated_no_fault q names t (treated_faults.After name) h f = h.target.before f.vertex f.lowest.member f.lowest.after
treated_no_fault q names t treated_faults.TooMany h f = let few = h.few in let many = f.many in absurd (omega (arith, few, many))
treated_no_fault q names t treated_faults.NoMemory h f = f

nested_no_fault : (q : MixedGraph) (names : List (List ℕ)) (t : PlainTarget) (m : ℕ) (fault : NaturalFault) → IsNestedQuestion q t m
    → IsFaultOfQuestion q names (question_of t m) fault → ⊥
nested_no_fault q names t m (natural_faults.Listed fault) h f = f
nested_no_fault q names t m natural_faults.NoMediator h f = f
nested_no_fault q names t m (natural_faults.After name) h f = h.target.asked.before f.vertex f.lowest.member f.lowest.after
nested_no_fault q names t m natural_faults.TooMany h f = let few = h.few in let many = f.many in absurd (omega (arith, few, many))
nested_no_fault q names t m natural_faults.NoMemory h f = f

-- ---- how an answer ends

-- what is asked for is accepted, or it isn't, or it can't be asked for
abbrev HasKind : (asked accepted : Type 0) → Outcome → Type 0
HasKind asked accepted o = (accepted × (o ≡ Yes)) ⊎ (((asked × (accepted → ⊥)) × (o ≡ No)) ⊎ ((asked → ⊥) × (o ≡ Graph)))

same_kinds : {A B : Type 0} → (B → A) → (o p : Outcome) → HasKind A B o → HasKind A B p → o ≡ p
same_kinds up o p (inl a) (inl b) = a.1 ∙ sym b.1
same_kinds up o p (inl a) (inr (inl b)) = absurd (b.0.1 a.0)
same_kinds up o p (inl a) (inr (inr b)) = absurd (b.0 (up a.0))
same_kinds up o p (inr (inl a)) (inl b) = absurd (a.0.1 b.0)
same_kinds up o p (inr (inl a)) (inr (inl b)) = a.1 ∙ sym b.1
same_kinds up o p (inr (inl a)) (inr (inr b)) = absurd (b.0 a.0.0)
same_kinds up o p (inr (inr a)) (inl b) = absurd (a.0 (up b.0))
same_kinds up o p (inr (inr a)) (inr (inl b)) = absurd (a.0 b.0.0)
same_kinds up o p (inr (inr a)) (inr (inr b)) = a.1 ∙ sym b.1

-- the parts make up an effect that may be asked for
record AreTreated (q : MixedGraph) (t : PlainTarget) (ps : List PlainDerivedPart) : Type 0 where
  pub question : IsTreatedQuestion q t
  pub read : List PlainPart
  pub accepted : AcceptsTreated q t.x t.y t.given ps read

record AreNested (q : MixedGraph) (t : PlainTarget) (m : ℕ) (ps : List PlainDerivedPart) : Type 0 where
  pub question : IsNestedQuestion q t m
  pub read : List PlainPart
  pub accepted : AcceptsNatural q t.x m t.y t.given ps read

-- ---- a text is read in one way

-- what a text is
data Content : Type 0 where
  whole : Content
  treated : PlainTarget → List PlainDerivedPart → Content
  natural : PlainTarget → ℕ → List PlainDerivedPart → Content
  none : Content

abbrev in_parts : Result PlainPartCertificate CertFault → Content
in_parts (Ok (plain.treated t ps)) = treated t ps
in_parts (Ok (plain.natural t m ps)) = natural t m ps
in_parts (Err fault) = none

abbrev read_as : Result PlainCertificate CertFault → Result PlainPartCertificate CertFault → Content
read_as (Ok c) p = whole
read_as (Err (certificates.Version version)) p = in_parts p
read_as (Err fault) p = none

abbrev content_by : (long : Bool) → Result PlainCertificate CertFault → Result PlainPartCertificate CertFault → Content
content_by true r p = none
content_by false r p = read_as r p

abbrev content : (names : List (List ℕ)) → (bytes : List ℕ) → Content
content names bytes = content_by (nat_lt 67108864 (length bytes)) (certificate_in names bytes) (part_certificate_in names bytes)

unread_none : (r : Result PlainCertificate CertFault) (p : Result PlainPartCertificate CertFault) (fault : CertFault) → IsUnread r p fault → read_as r p ≡ none
unread_none (Ok c) p fault h = absurd h
unread_none (Err certificates.NotJson) p fault h = refl
unread_none (Err (certificates.Member k)) p fault h = refl
unread_none (Err (certificates.Version version)) p fault h = ap in_parts h
unread_none (Err certificates.TooDeep) p fault h = refl
unread_none (Err (certificates.Name name)) p fault h = refl
unread_none (Err certificates.NoMemory) p fault h = refl

module _ (names : List (List ℕ)) (bytes : List ℕ) where
  not_long : length bytes ≤ 67108864 → content names bytes ≡ read_as (certificate_in names bytes) (part_certificate_in names bytes)
  not_long small = ap (λ b. content_by b (certificate_in names bytes) (part_certificate_in names bytes)) (short small)
    where
      short : length bytes ≤ 67108864 → nat_lt 67108864 (length bytes) ≡ false
      short le = grind (arith, le)

  long_none : 67108864 < length bytes → content names bytes ≡ none
  long_none lt = ap (λ b. content_by b (certificate_in names bytes) (part_certificate_in names bytes)) (long lt)
    where
      long : 67108864 < length bytes → nat_lt 67108864 (length bytes) ≡ true
      long k = grind (arith, k)

  holds_whole : (c : PlainCertificate) → HoldsCertificate names bytes c → content names bytes ≡ whole
  holds_whole c h = not_long h.small ∙ ap (λ r. read_as r (part_certificate_in names bytes)) h.reads

  holds_parts : (c : PlainPartCertificate) → HoldsParts names bytes c → content names bytes ≡ in_parts (Ok c)
  holds_parts c h =
      not_long h.small ∙ ap (λ r. read_as r (part_certificate_in names bytes)) (versions_apart names bytes c h.reads) ∙ ap in_parts h.reads

module _ (q : MixedGraph) (names : List (List ℕ)) (zs bytes : List ℕ) where
  -- a right answer for what a text is ends so
  abbrev Ends : Content → Outcome → Type 0
  Ends whole o = (a : CheckAnswer) × IsForText q names zs bytes a × (o ≡ check_telling.outcome a)
  Ends (treated t ps) o = HasKind (IsTreatedQuestion q t) (AreTreated q t ps) o
  Ends (natural t m ps) o = HasKind (IsNestedQuestion q t m) (AreNested q t m ps) o
  Ends none o = o ≡ Second

  same_ends : (k : Content) (o p : Outcome) → Ends k o → Ends k p → o ≡ p
  same_ends whole o p a b = a.2 ∙ certificate_alike q names zs bytes (Ok a.0) (Ok b.0) a.1 b.1 ∙ sym b.2
  same_ends (treated t ps) o p a b = same_kinds (λ h. h.question) o p a b
  same_ends (natural t m ps) o p a b = same_kinds (λ h. h.question) o p a b
  same_ends none o p a b = a ∙ sym b

  whole_held : (a : CheckAnswer) → IsForText q names zs bytes a → content names bytes ≡ whole
  whole_held a (of_formula t f d r h) = holds_whole names bytes (plain.formula t f d) r
  whole_held a (of_hedge t h n r k) = holds_whole names bytes _ r

  moved : (k : Content) (o : Outcome) → content names bytes ≡ k → Ends k o → Ends (content names bytes) o
  moved k o same h = subst (λ (c : Content). Ends c o) (sym same) h

  ends : (r : Result Answer Fault) → IsForCertificate q names zs bytes r → Ends (content names bytes) (outcome_in part_check_telling part_check_refusal r)
  ends (Ok (Whole a)) h = moved whole (check_telling.outcome a) (whole_held a h) (a, h, refl)
  ends (Ok (Treated a f)) h = moved (treated h.target h.parts) Yes (holds_parts names bytes _ h.holds)
      (inl (record { question = h.is.question; read = _; accepted = h.is.accepted }, refl))
  ends (Ok (Natural a f)) h = moved (natural h.target h.through h.parts) Yes (holds_parts names bytes _ h.holds)
      (inl (record { question = h.is.question; read = _; accepted = h.is.accepted }, refl))
  ends (Ok (RefusedTreated why lemmas)) h = moved (treated h.target h.parts) No (holds_parts names bytes _ h.holds)
      (inr (inl ((h.is.question, λ a. treated_either q h.target.x h.target.y h.target.given h.parts a.read _ lemmas why a.accepted h.is.counted h.is.fault), refl)))
  ends (Ok (RefusedNatural why lemmas)) h = moved (natural h.target h.through h.parts) No (holds_parts names bytes _ h.holds)
      (inr (inl (
        (
          h.is.question,
          λ a. natural_either q h.target.x h.through h.target.y h.target.given h.parts a.read _ lemmas why a.accepted h.is.counted h.is.fault,
        ),
        refl,
      )))
  ends (Err (faults.Certificate TooLong)) h = moved none Second (long_none names bytes h) refl
  ends (Err (faults.Certificate (Faulty fault))) h = moved none Second (not_long names bytes h.small ∙ unread_none _ _ fault h.unread) refl
  ends (Err (faults.Certificate NoMemory)) h = absurd h
  ends (Err (faults.Treated fault)) h = moved (treated h.target h.parts) Graph (holds_parts names bytes _ h.holds)
      (inr (inr ((λ question. treated_no_fault q names h.target fault question h.is), refl)))
  ends (Err (faults.Natural fault)) h = moved (natural h.target h.through h.parts) Graph (holds_parts names bytes _ h.holds)
      (inr (inr ((λ question. nested_no_fault q names h.target h.through fault question h.is), refl)))

  -- right answers on a certificate end alike
  pub parts_alike : (a b : Result Answer Fault) → IsForCertificate q names zs bytes a → IsForCertificate q names zs bytes b
      → outcome_in part_check_telling part_check_refusal a ≡ outcome_in part_check_telling part_check_refusal b
  parts_alike a b x y = same_ends (content names bytes) (outcome_in part_check_telling part_check_refusal a) (outcome_in part_check_telling part_check_refusal b)
      (ends a x) (ends b y)
