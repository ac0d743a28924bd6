-- Right answers of a certificate end alike, and a text that has one isn't refused.
use Rattle.std.proofs.Common.{◌≡◌, ◌⊎◌, ℕ, true, List, Result, Ok, Err, inl, inr, refl, sym, ◌∙◌, subst, arith}
use Rattle.mixed_graph.specs.Vocabulary.{MixedGraph}
use Rattle.prob_expr.specs.Vocabulary.{is_listed, PlainFormula, PlainTarget}
use Rattle.do_derivation.specs.Accepts.{Accepts}
use Rattle.do_derivation.specs.declared.faults.CheckFault.{CheckFault}
use Rattle.do_derivation.specs.Vocabulary.{AcceptsNot, PlainDerivation}
use Rattle.do_derivation.proofs.Exact.{accepts_either}
use Rattle.hedge.specs.declared.hedge.Hedge.{Hedge}
use Rattle.hedge.specs.Vocabulary.{HasEntries, IsHedge}
use Rattle.counter_models.specs.Vocabulary.{IsHarmlessTo}
use Rattle.certificate.specs.declared.fault.CertFault.{CertFault}
use Rattle.certificate.specs.Vocabulary.{PlainCertificate, hedge_view}
use Rattle.certificate.specs.Plain as plain
use Rattle.replies.specs.declared.outcome.Outcome.TheVariants.{Yes, No}
use Rattle.told.specs.Vocabulary.{outcome_in}
use Rattle.check_command.specs.CertificateFaults.{certificate_refusal}
use Rattle.check_command.specs.Right.{HoldsCertificate, IsForText, of_formula, of_hedge, IsCertificateFault, IsForCertificate}
use Rattle.check_command.specs.Telling.{outcome_of, check_telling}
use Rattle.check_command.specs.declared.answer.Answer.{Answer}
use Rattle.check_command.specs.declared.answer.Answer.TheVariants.{AcceptedFormula, RefusedDerivation, AcceptedHedge, RefusedHedge, MetHedge}
use Rattle.check_command.specs.declared.fault.CertificateFault.{CertificateFault}
use Rattle.check_command.specs.declared.fault.CertificateFault.TheVariants.{TooLong, Faulty, NoMemory}
use Rattle.check_command.proofs.OneHedge.{hedge_from_view, no_hedge_fault}

-- ---- what is accepted isn't refused

-- one text is read as one certificate
same_read : (r : Result PlainCertificate CertFault) (a b : PlainCertificate) → r ≡ Ok a → r ≡ Ok b → b ≡ a
same_read r a b p q = let e : ◌≡◌ {A = Result PlainCertificate CertFault} (Ok b) (Ok a) = sym q ∙ p in cc e

-- each of the experiments is harmless to a hedge
abbrev AreHarmless : List ℕ → Hedge → Type 0
AreHarmless zs h = (z : ℕ) → is_listed z zs ≡ true → IsHarmlessTo h z

-- the bytes are a certificate that is accepted
data IsAccepted (q : MixedGraph) (names : List (List ℕ)) (zs bytes : List ℕ) : Type 0 where
  by_steps : (t : PlainTarget) (f : PlainFormula) (d : PlainDerivation) → HoldsCertificate names bytes (plain.formula t f d) → Accepts q zs t f d
      → IsAccepted q names zs bytes
  by_hedge : (t : PlainTarget) (h : Hedge) → HasEntries h → HoldsCertificate names bytes (plain.hedge t (hedge_view h)) → IsHedge q t.x t.y h
      → AreHarmless zs h → IsAccepted q names zs bytes

module _ (q : MixedGraph) (names : List (List ℕ)) (zs bytes : List ℕ) where
  -- a derivation with a fault isn't accepted
  underived : (t : PlainTarget) (f : PlainFormula) (d : PlainDerivation) (fault : CheckFault) → HoldsCertificate names bytes (plain.formula t f d)
      → AcceptsNot q zs t f d fault → IsAccepted q names zs bytes → ⊥
  underived t f d fault r faulty (by_steps u k e s accepted) =
      let same = same_read _ (plain.formula t f d) (plain.formula u k e) r.reads s.reads in
      let ts : u ≡ t = cc same in let fs : k ≡ f = cc same in let ds : e ≡ d = cc same in
      accepts_either q zs t f d fault
      (subst (λ (x : PlainTarget). Accepts q zs x f d) ts (subst (λ (x : PlainFormula). Accepts q zs u x d) fs
      (subst (λ (x : PlainDerivation). Accepts q zs u k x) ds accepted))) faulty
  underived t f d fault r faulty (by_hedge u k m s is harmless) = absurd
      (let e : plain.hedge u (hedge_view k) ≡ plain.formula t f d = same_read _ (plain.formula t f d) (plain.hedge u (hedge_view k)) r.reads s.reads in cc e)

  -- nor is a hedge that fails, or that an experiment meets
  unhedged : (t : PlainTarget) (h : Hedge) → HasEntries h → HoldsCertificate names bytes (plain.hedge t (hedge_view h))
      → (IsHedge q t.x t.y h → AreHarmless zs h → ⊥) → IsAccepted q names zs bytes → ⊥
  unhedged t h n r refused (by_steps u f d s accepted) = absurd
      (let e : plain.formula u f d ≡ plain.hedge t (hedge_view h) = same_read _ (plain.hedge t (hedge_view h)) (plain.formula u f d) r.reads s.reads in cc e)
  unhedged t h n r refused (by_hedge u k m s is harmless) =
      let same = same_read _ (plain.hedge t (hedge_view h)) (plain.hedge u (hedge_view k)) r.reads s.reads in
      let ts : u ≡ t = cc same in let views : hedge_view k ≡ hedge_view h = cc same in
      let hs = hedge_from_view h k n m views in
      refused (subst (λ (x : PlainTarget). IsHedge q x.x x.y h) ts (subst (λ (x : Hedge). IsHedge q u.x u.y x) hs is)) (subst (AreHarmless zs) hs harmless)

  -- the answer is yes for accepted certificates alone
  kind : (a : Answer) → IsForText q names zs bytes a
      → ((outcome_of a ≡ Yes) × IsAccepted q names zs bytes) ⊎ ((outcome_of a ≡ No) × (IsAccepted q names zs bytes → ⊥))
  kind (AcceptedFormula a) (of_formula t f d r h) = inl (refl, by_steps t f d r h.1.accepted)
  kind (RefusedDerivation lemmas fault) (of_formula t f d r h) = inr (refl, underived t f d fault r h.1)
  kind (AcceptedHedge s k over) (of_formula t f d r h) = absurd h
  kind (RefusedHedge fault) (of_formula t f d r h) = absurd h
  kind MetHedge (of_formula t f d r h) = absurd h
  kind (AcceptedFormula a) (of_hedge t h n r is) = absurd is
  kind (RefusedDerivation lemmas fault) (of_hedge t h n r is) = absurd is
  kind (AcceptedHedge s k over) (of_hedge t h n r is) = inl (refl, by_hedge t h n r is.4.evidence is.4.harmless)
  kind (RefusedHedge fault) (of_hedge t h n r is) = inr (refl, unhedged t h n r (λ hedge harmless. no_hedge_fault q t.x t.y h fault hedge is))
  kind MetHedge (of_hedge t h n r is) = inr (refl, unhedged t h n r (λ hedge harmless. is.meets (harmless is.experiment is.listed)))

  same_kind : (a b : Answer) → IsForText q names zs bytes a → IsForText q names zs bytes b → outcome_of a ≡ outcome_of b
  same_kind a b x y = go (kind a x) (kind b y)
    where
      go : ((outcome_of a ≡ Yes) × IsAccepted q names zs bytes) ⊎ ((outcome_of a ≡ No) × (IsAccepted q names zs bytes → ⊥))
          → ((outcome_of b ≡ Yes) × IsAccepted q names zs bytes) ⊎ ((outcome_of b ≡ No) × (IsAccepted q names zs bytes → ⊥))
          → outcome_of a ≡ outcome_of b
      go (inl m) (inl n) = m.0 ∙ sym n.0
      go (inl m) (inr n) = absurd (n.1 m.1)
      go (inr m) (inl n) = absurd (m.1 n.1)
      go (inr m) (inr n) = m.0 ∙ sym n.0

  -- ---- what is read isn't at fault

  read_or_faulty : (c : PlainCertificate) (fault : CertificateFault) → HoldsCertificate names bytes c → IsCertificateFault names bytes fault → ⊥
  read_or_faulty c TooLong r long = absurd (let small = r.small in omega (arith, small, long))
  read_or_faulty c (Faulty fault) r is = absurd (let e : ◌≡◌ {A = Result PlainCertificate CertFault} (Ok c) (Err fault) = sym r.reads ∙ is.reads in cc e)
  read_or_faulty c NoMemory r is = is

  answered_or_faulty : (a : Answer) (fault : CertificateFault) → IsForText q names zs bytes a → IsCertificateFault names bytes fault → ⊥
  answered_or_faulty a fault (of_formula t f d r h) is = read_or_faulty (plain.formula t f d) fault r is
  answered_or_faulty a fault (of_hedge t h n r k) is = read_or_faulty (plain.hedge t (hedge_view h)) fault r is

  pub certificate_alike : (a b : Result Answer CertificateFault) → IsForCertificate q names zs bytes a → IsForCertificate q names zs bytes b
      → outcome_in check_telling certificate_refusal a ≡ outcome_in check_telling certificate_refusal b
  certificate_alike (Ok a) (Ok b) x y = same_kind a b x y
  certificate_alike (Ok a) (Err fault) x y = absurd (answered_or_faulty a fault x y)
  certificate_alike (Err fault) (Ok b) x y = absurd (answered_or_faulty b fault y x)
  certificate_alike (Err fault) (Err other) x y = refl
