-- Which answers of `check` are right: whether a certificate shows what it says of an effect, in the observed graph of a diagram.
use Rattle.std.specs.Prelude.{ℕ, ◌≡◌, ◌≢◌, ◌<◌, ◌≤◌, Bool, true, false, List, [], ◌∷◌, length, Some, None, Result, Ok, Err}
use Rattle.mixed_graph.specs.Vocabulary.{MixedGraph}
use Rattle.finite_models.specs.Vocabulary.{meaning}
use Rattle.prob_expr.specs.Vocabulary.{HasNoFormula, HasNoFormulaOver, AgreeUnderAll, is_allowed, is_listed, PlainFormula, PlainTarget, effect_on, EqualsEffect}
use Rattle.do_derivation.specs.Accepts.{Accepts}
use Rattle.do_derivation.specs.Vocabulary.{AcceptsNot, PlainDerivation}
use Rattle.hedge.specs.declared.hedge.Hedge.{Hedge}
use Rattle.hedge.specs.Vocabulary.{HasEntries, IsFirstHedgeFault, IsHedge, FormHedge}
use Rattle.counter_models.specs.declared.counter_pair.CounterPair.{CounterPair}
use Rattle.counter_models.specs.Vocabulary.{AreCounterModels, IsHarmlessTo}
use Rattle.certificate.specs.declared.fault.CertFault.{CertFault}
use Rattle.certificate.specs.Vocabulary.{PlainCertificate, formula, hedge, hedge_view, certificate_in}
use Rattle.certificate.specs.declared.fault.CertFault.TheVariants as certificates
use Rattle.targets.specs.declared.fault.TargetFault.{TargetFault}
use Rattle.diagram.specs.declared.diagram.Diagram.{Diagram}
use Rattle.experiment_lists.specs.Vocabulary.{experiments_fault, AreExperimentSets, IsExperimentsFault, Lists}
use Rattle.effect_answers.specs.Vocabulary.{formula_certificate}
use Rattle.check_command.specs.declared.answer.Answer.{Answer}
use Rattle.check_command.specs.declared.answer.Answer.TheVariants.{AcceptedFormula, RefusedDerivation, AcceptedHedge, RefusedHedge, MetHedge}
use Rattle.check_command.specs.declared.fault.CertificateFault.{CertificateFault}
use Rattle.check_command.specs.declared.fault.CertificateFault.TheVariants.{TooLong, Faulty, NoMemory}

-- ---- on the diagram alone

-- of a diagram with these names of all its vertices and of the observed ones, the lists name experiments on the sets zs
pub record AreExperimentsOn (all observed : List (List ℕ)) (experiments : Lists) (zs : List ℕ) : Type 0 where
  pub no_fault : experiments_fault all observed experiments ≡ None
  pub sets : AreExperimentSets observed experiments zs

-- the diagram alone has no answer, but a listed name of an experiment may be at fault
abbrev pub IsForFirst : {A : Type 0} → Diagram → Lists → Result A TargetFault → Type 0
IsForFirst d experiments (Ok a) = ⊥
IsForFirst d experiments (Err fault) = IsExperimentsFault d.read.names d.observed.names experiments fault

-- ---- for a certificate in the observed graph q, with experiments on the sets zs

-- The derivation is accepted for the formula, each of whose terms is observed or under one of the experiments, and which is the effect P(y |
-- do(x), given) at each assignment in each positive model that fits the graph.
pub record IsAcceptedFormula (q : MixedGraph) (zs : List ℕ) (t : PlainTarget) (f : PlainFormula) (d : PlainDerivation) : Type 0 where
  pub accepted : Accepts q zs t f d
  pub allowed : is_allowed zs f ≡ true
  pub effect : EqualsEffect q t f

-- Its sets form a hedge for the effect (Shpitser and Pearl), of which the choice of children and the links are the evidence; two positive models
-- that fit the graph agree on all observations and differ on the effect under every value of x, so that no formula without interventions equals it.
-- Each of the experiments leaves the larger set alone or sets a member of the smaller one. So the two models agree under each experiment too, and no
-- formula whose terms are observed or under one of them equals the effect.
pub record IsAcceptedHedge (q : MixedGraph) (zs : List ℕ) (x y : ℕ) (h : Hedge) : Type 0 where
  pub forms : FormHedge q x y h.big.bits h.small.bits h.roots.bits
  pub evidence : IsHedge q x y h
  pub harmless : (z : ℕ) → is_listed z zs ≡ true → IsHarmlessTo h z
  pub pair : CounterPair
  pub models : AreCounterModels q x y pair
  pub under : AgreeUnderAll zs (meaning q pair.first) (meaning q pair.second)
  pub no_formula : HasNoFormula q (effect_on x y)
  pub no_formula_over : HasNoFormulaOver q zs (effect_on x y)

-- it is a hedge, but one of the experiments sets a member of the larger set and none of the smaller one
pub record IsMetHedge (q : MixedGraph) (zs : List ℕ) (x y : ℕ) (h : Hedge) : Type 0 where
  pub evidence : IsHedge q x y h
  pub experiment : ℕ
  pub listed : is_listed experiment zs ≡ true
  pub meets : IsHarmlessTo h experiment → ⊥

-- the answer for a formula with its derivation: the certificate is accepted, or its derivation has this first fault
abbrev pub DecidesFormula : MixedGraph → List ℕ → PlainTarget → PlainFormula → PlainDerivation → Answer → Type 0
DecidesFormula q zs t f d (AcceptedFormula a) = (formula_certificate a ≡ Some (formula t f d)) × IsAcceptedFormula q zs t f d
DecidesFormula q zs t f d (RefusedDerivation lemmas fault) = (lemmas ≡ length d.lemmas) × AcceptsNot q zs t f d fault
DecidesFormula q zs t f d a = ⊥

-- whether there are experiments
abbrev pub are_some : List ℕ → Bool
are_some [] = false
are_some (z ∷ zs) = true

-- the answer for a hedge: it is accepted; or this keeps it from being a hedge, the first in order; or an experiment meets it
abbrev pub DecidesHedge : MixedGraph → List ℕ → PlainTarget → Hedge → Answer → Type 0
DecidesHedge q zs t h (AcceptedHedge s k over) =
    (s.x.bits ≡ t.x) × (s.y.bits ≡ t.y) × (k ≡ h) × (over ≡ are_some zs) × IsAcceptedHedge q zs t.x t.y h
DecidesHedge q zs t h (RefusedHedge fault) = IsFirstHedgeFault q t.x t.y h fault
DecidesHedge q zs t h MetHedge = IsMetHedge q zs t.x t.y h
DecidesHedge q zs t h a = ⊥

-- ---- on the bytes of a certificate

-- the bytes are the text of this certificate, and at most 67,108,864
pub record HoldsCertificate (names : List (List ℕ)) (bytes : List ℕ) (c : PlainCertificate) : Type 0 where
  pub small : length bytes ≤ 67108864
  pub reads : certificate_in names bytes ≡ Ok c

-- the bytes are a certificate of a formula or of a hedge, and this is its answer
pub data IsForText (q : MixedGraph) (names : List (List ℕ)) (zs bytes : List ℕ) (a : Answer) : Type 0 where
  of_formula : (t : PlainTarget) (f : PlainFormula) (d : PlainDerivation) → HoldsCertificate names bytes (formula t f d) → DecidesFormula q zs t f d a
      → IsForText q names zs bytes a
  of_hedge : (t : PlainTarget) (h : Hedge) → HasEntries h → HoldsCertificate names bytes (hedge t (hedge_view h)) → DecidesHedge q zs t h a
      → IsForText q names zs bytes a

-- the bytes are no certificate: their text has a fault
pub record IsFaulty (names : List (List ℕ)) (bytes : List ℕ) (fault : CertFault) : Type 0 where
  pub small : length bytes ≤ 67108864
  pub no_memory : fault ≢ certificates.NoMemory
  pub reads : certificate_in names bytes ≡ Err fault

-- what is wrong with the bytes
abbrev pub IsCertificateFault : List (List ℕ) → List ℕ → CertificateFault → Type 0
IsCertificateFault names bytes TooLong = 67108864 < length bytes
IsCertificateFault names bytes (Faulty fault) = IsFaulty names bytes fault
IsCertificateFault names bytes NoMemory = ⊥

-- the answer on the bytes of a certificate, or what is wrong with these
abbrev pub IsForCertificate : MixedGraph → (names : List (List ℕ)) → (zs bytes : List ℕ) → Result Answer CertificateFault → Type 0
IsForCertificate q names zs bytes (Ok a) = IsForText q names zs bytes a
IsForCertificate q names zs bytes (Err fault) = IsCertificateFault names bytes fault
