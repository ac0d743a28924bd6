-- Which answers of `treated` are right: what y would be under do(x) among those for whom x and what is given were observed, in the observed graph.
use Rattle.std.specs.Prelude.{ℕ, ◌≡◌, ◌<◌, ◌≤◌, Bool, true, false, List, Some, Result, Ok, Err, IsTrue}
use Rattle.mixed_graph.specs.Vocabulary.{has, MixedGraph, union, name_of, graph_of}
use Rattle.hedge.specs.declared.hedge.Hedge.{Hedge}
use Rattle.hedge.specs.Vocabulary.{IsHedge}
use Rattle.counter_models.specs.declared.counter_pair.CounterPair.{CounterPair}
use Rattle.prob_expr.specs.Vocabulary.{PlainFormula, formula_view}
use Rattle.certificate.specs.declared.values.PartCertificate.{PartCertificate}
use Rattle.certificate.specs.Vocabulary.{part_certificate_view}
use Rattle.derived_certificates.specs.Vocabulary.{IsTreatedCertificate}
use Rattle.targets.specs.declared.query.Sets.{Sets}
use Rattle.targets.specs.Vocabulary.{Lists, AreListedSets, IsListFault, OrMemory}
use Rattle.diagram.specs.declared.diagram.Diagram.{Diagram}
use Rattle.diagram.specs.Vocabulary.{Names, query_lists}
use Rattle.effect_answers.specs.Vocabulary.{IsFoundHedge}
use Rattle.treated_models.specs.Vocabulary.{FormulaNamesOnce, HasNoFormulaAmong, DifferAmong, EqualsAmong, name_count}
use Rattle.treated_id.specs.declared.answers.Confounding.{Confounding}
use Rattle.treated_id.specs.Vocabulary.{IsConfounding, AreBefore, IsAfter, IsConfounded, AreNames, IsFormula}
use Rattle.treated_command.specs.declared.answer.Asked.{Asked}
use Rattle.treated_command.specs.declared.answer.Answer.{Answer}
use Rattle.treated_command.specs.declared.answer.Answer.TheVariants.{Formula, Certified, Excluded, Unfixed}
use Rattle.treated_command.specs.declared.fault.TreatedFault.{TreatedFault}
use Rattle.treated_command.specs.declared.fault.TreatedFault.TheVariants.{Listed, After, TooMany, NoMemory}

-- these sets are asked for, with the primed names of x
pub record IsAskedFor (q : MixedGraph) (s : Sets) (a : Asked) : Type 0 where
  pub sets : a.sets ≡ s
  pub primes : AreNames q.vertices s.x.bits s.x.bits s.x.bits a.primes.bits

-- the effect of these sets may be asked for, and this is what is asked: x acts on none of x and what is given, and there are at most 64 names with those of
-- x as observed
pub record MayBeAsked (q : MixedGraph) (s : Sets) (a : Asked) : Type 0 where
  pub before : AreBefore q s.x.bits s.given.bits
  pub few : name_count q.vertices s.x.bits ≤ 64
  pub asked : IsAskedFor q s a

-- no treatment is confounded with a child of its own, and the formula equals P(y under do(x) | x and z as observed) in each positive model of q, at each
-- assignment of values to names and primed names; it is that of the criterion, and its terms are observed
pub record IsFormulaFor (q : MixedGraph) (s : Sets) (f : PlainFormula) : Type 0 where
  pub clear : IsConfounded q s.x.bits s.y.bits s.given.bits → ⊥
  pub equals : EqualsAmong q s.x.bits s.y.bits s.given.bits f
  pub formula : IsFormula q s.x.bits s.y.bits s.given.bits f
  pub observed : FormulaNamesOnce q.vertices s.x.bits f

-- no treatment is confounded with a child of its own, and this is a certificate of P(y under do(x) | x and z as observed), whose parts are accepted
pub record IsCertifiedFor (q : MixedGraph) (s : Sets) (c : PartCertificate) : Type 0 where
  pub clear : IsConfounded q s.x.bits s.y.bits s.given.bits → ⊥
  pub certificate : IsTreatedCertificate q s.x.bits s.y.bits s.given.bits (part_certificate_view c)

-- a treatment is confounded with a child of its own, by this path
pub record IsConfoundedBy (q : MixedGraph) (s : Sets) (c : Confounding) : Type 0 where
  pub path : IsConfounding q s.x.bits s.y.bits s.given.bits c
  pub confounded : IsConfounded q s.x.bits s.y.bits s.given.bits

-- and this is a hedge for the joint effect of x on y and what is given, whose two models show that no formula equals the effect among the treated
pub record IsExcluded (q : MixedGraph) (s : Sets) (c : Confounding) (h : Hedge) (pair : CounterPair) : Type 0 where
  pub by : IsConfoundedBy q s c
  pub found : IsFoundHedge q s.x.bits (union s.y.bits s.given.bits) h pair
  pub no_formula : HasNoFormulaAmong q s.x.bits s.y.bits s.given.bits

-- and there is no hedge for the joint effect; two positive models that agree on observations differ on the effect among the treated, so no formula equals it
pub record IsUnfixed (q : MixedGraph) (s : Sets) (c : Confounding) : Type 0 where
  pub by : IsConfoundedBy q s c
  pub no_hedge : (h : Hedge) → IsHedge q s.x.bits (union s.y.bits s.given.bits) h → ⊥
  pub differ : DifferAmong q s.x.bits s.y.bits s.given.bits
  pub no_formula : HasNoFormulaAmong q s.x.bits s.y.bits s.given.bits

-- the answer by a formula, where no certificate is asked for
abbrev pub DecidesPlain : (certified : Bool) → MixedGraph → Sets → Asked → PlainFormula → Type 0
DecidesPlain false q s a f = IsAskedFor q s a × IsFormulaFor q s f
DecidesPlain true q s a f = ⊥

-- the answer by a certificate, where one is asked for
abbrev pub DecidesCertified : (certified : Bool) → MixedGraph → Sets → Asked → PartCertificate → Type 0
DecidesCertified false q s a c = ⊥
DecidesCertified true q s a c = IsAskedFor q s a × IsCertifiedFor q s c

-- the answer for these sets of the observed graph q
abbrev pub Decides : (certified : Bool) → MixedGraph → Sets → Answer → Type 0
Decides certified q s (Formula a f) = DecidesPlain certified q s a (formula_view f)
Decides certified q s (Certified a c) = DecidesCertified certified q s a c
Decides certified q s (Excluded a c h pair) = IsAskedFor q s a × IsExcluded q s c h pair
Decides certified q s (Unfixed a c) = IsAskedFor q s a × IsUnfixed q s c

-- the answer where x acts on none of x and what is given, and there are at most 64 names with those of x as observed
pub record IsForSets (certified : Bool) (q : MixedGraph) (s : Sets) (a : Answer) : Type 0 where
  pub before : AreBefore q s.x.bits s.given.bits
  pub few : name_count q.vertices s.x.bits ≤ 64
  pub decided : Decides certified q s a

-- v is the lowest member of x and z that comes after a member of x
pub record IsLowestAfter (q : MixedGraph) (x z v : ℕ) : Type 0 where
  pub member : IsTrue (has (union x z) v)
  pub after : IsAfter q x v
  pub least : (u : ℕ) → IsTrue (has (union x z) u) → IsAfter q x u → v ≤ u

-- such a member has this name
pub record IsAfterNamed (q : MixedGraph) (names : List (List ℕ)) (s : Sets) (name : List ℕ) : Type 0 where
  pub vertex : ℕ
  pub lowest : IsLowestAfter q s.x.bits s.given.bits vertex
  pub is : name ≡ name_of names vertex

-- there is none, and with the names of x as observed there are more than 64
pub record AreMany (q : MixedGraph) (s : Sets) : Type 0 where
  pub before : AreBefore q s.x.bits s.given.bits
  pub many : 64 < name_count q.vertices s.x.bits

-- the fault of these sets, whose vertices have these names
abbrev pub IsFaultOfSets : MixedGraph → List (List ℕ) → Sets → TreatedFault → Type 0
IsFaultOfSets q names s (Listed fault) = ⊥
IsFaultOfSets q names s (After name) = IsAfterNamed q names s name
IsFaultOfSets q names s TooMany = AreMany q s
IsFaultOfSets q names s NoMemory = ⊥

-- this is so of the sets that lists name
pub record IsOfSets (l : Lists) (is_so : Sets → Type 0) : Type 0 where
  pub sets : Sets
  pub named : AreListedSets l sets.x.bits sets.y.bits sets.given.bits
  pub is : is_so sets

-- the fault of lists of names
abbrev pub IsFault : MixedGraph → Lists → TreatedFault → Type 0
IsFault q l (Listed fault) = IsListFault l fault
IsFault q l fault = IsOfSets l (λ s. IsFaultOfSets q l.observed s fault)

-- a fault of sets, or want of memory
abbrev pub IsSetsFaultOrMemory : MixedGraph → List (List ℕ) → Sets → TreatedFault → Type 0
IsSetsFaultOrMemory q names s NoMemory = Unit {0}
IsSetsFaultOrMemory q names s fault = IsFaultOfSets q names s fault

-- a fault of lists, or want of memory
abbrev pub IsFaultOrMemory : MixedGraph → Lists → TreatedFault → Type 0
IsFaultOrMemory q l (Listed fault) = OrMemory (IsListFault l) fault
IsFaultOrMemory q l NoMemory = Unit {0}
IsFaultOrMemory q l fault = IsOfSets l (λ s. IsFaultOfSets q l.observed s fault)

-- the answer for lists of names, or the fault of these
abbrev pub IsForNames : (certified : Bool) → MixedGraph → Lists → Result Answer TreatedFault → Type 0
IsForNames certified q l (Ok a) = IsOfSets l (λ s. IsForSets certified q s a)
IsForNames certified q l (Err fault) = IsFault q l fault

-- the answer on a diagram, in its observed graph: x and y are those that are listed, or else the exposures and the outcomes
abbrev pub IsTreatedAnswer : (certified : Bool) → Diagram → (x y : Names) → (given : List (List ℕ)) → Result Answer TreatedFault → Type 0
IsTreatedAnswer certified d x y given = IsForNames certified (graph_of d.observed.graph) (query_lists d.read d.observed.names x y (Some given))
