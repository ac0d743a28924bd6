-- Which answers of `natural` are right: what y would be under do(x), were the mediators as under another value of x; in the observed graph.
use Rattle.std.specs.Prelude.{ℕ, ◌≡◌, ◌<◌, ◌≤◌, ◌||◌, Bool, true, false, List, Option, Result, Ok, Err, IsTrue}
use Rattle.mixed_graph.specs.Vocabulary.{has, MixedGraph, IsDescendant, union, name_of, graph_of}
use Rattle.finite_models.specs.Vocabulary.{FiniteModel, Fits, IsAssignment, weight_of}
use Rattle.hedge.specs.declared.hedge.Hedge.{Hedge}
use Rattle.hedge.specs.Vocabulary.{IsHedge}
use Rattle.counter_models.specs.declared.counter_pair.CounterPair.{CounterPair}
use Rattle.certificate.specs.declared.values.PartCertificate.{PartCertificate}
use Rattle.certificate.specs.Vocabulary.{part_certificate_view}
use Rattle.derived_certificates.specs.Vocabulary.{IsNaturalCertificate}
use Rattle.diagram.specs.declared.diagram.Diagram.{Diagram}
use Rattle.diagram.specs.Vocabulary.{Names}
use Rattle.identify.specs.Vocabulary.{IsRightHedge}
use Rattle.treated_models.specs.Vocabulary.{joined, name_count}
use Rattle.treated_id.specs.Vocabulary.{AreNames}
use Rattle.nested_models.specs.Vocabulary.{weight_of_nested, HasNoIndirectPath, HasNoDirectPath, HasNoFormulaNested}
use Rattle.natural_id.specs.declared.answers.NaturalFormula.{NaturalFormula}
use Rattle.natural_id.specs.declared.answers.Witness.{Witness as Recanting}
use Rattle.natural_id.specs.declared.answers.Split.{Split as Parted}
use Rattle.natural_id.specs.Vocabulary.{EqualsNatural, IsFormulaByParts, parts_view, IsWitness, IsSplit, ReadsBoth, IsLostNested}
use Rattle.interventional_id.specs.declared.answer.Interventional.{Interventional}
use Rattle.interventional_id.specs.Vocabulary.{IsRight as IsInterventional}
use Rattle.targets.specs.Vocabulary.{OrMemory}
use Rattle.natural_command.specs.Asking.{NaturalLists, natural_lists, AreNamed, IsNamesFault, IsListsFault}
use Rattle.natural_command.specs.declared.asking.Question.{Question}
use Rattle.natural_command.specs.declared.answer.Asked.{Asked}
use Rattle.natural_command.specs.declared.answer.Answer.{Answer}
use Rattle.natural_command.specs.declared.answer.Answer.TheVariants.{Formula, Certified, Excluded, Witness, Split}
use Rattle.natural_command.specs.declared.fault.NaturalFault.{NaturalFault}
use Rattle.natural_command.specs.declared.fault.NaturalFault.TheVariants.{Listed, NoMediator, After, TooMany, NoMemory}

-- in each model of the graph the nested effect is that of x on y and z, whatever the second value of x is
abbrev pub IsIndirectNil : MixedGraph → (x m y z : ℕ) → Type 0
IsIndirectNil g x m y z = (w : FiniteModel) → Fits g w → (s t : ℕ → ℕ) → IsAssignment w.vertices w.size s → IsAssignment w.vertices w.size t
    → weight_of_nested w (has x) (has m) (has y) (has z) s t ≡ weight_of w (has x) (λ v. has y v || has z v) s

-- in each model of the graph the nested effect is that of x at its second value on y and z, whatever the first is
abbrev pub IsDirectNil : MixedGraph → (x m y z : ℕ) → Type 0
IsDirectNil g x m y z = (w : FiniteModel) → Fits g w → (s t : ℕ → ℕ) → IsAssignment w.vertices w.size s → IsAssignment w.vertices w.size t
    → weight_of_nested w (has x) (has m) (has y) (has z) s t ≡ weight_of w (has x) (λ v. has y v || has z v) (joined (has x) s t)

-- this question is asked, with the primed names of x, and with whether directed paths lead from x to y through the mediators and past them; where none
-- does, the indirect effect or the direct one is nil
pub record IsAskedFor (g : MixedGraph) (q : Question) (a : Asked) : Type 0 where
  pub question : a.question ≡ q
  pub primes : AreNames g.vertices q.x.bits q.x.bits q.x.bits a.primes.bits
  pub some_indirect : a.indirect ≡ true → HasNoIndirectPath g (has q.x.bits) (has q.through.bits) (has q.y.bits) → ⊥
  pub no_indirect : a.indirect ≡ false → HasNoIndirectPath g (has q.x.bits) (has q.through.bits) (has q.y.bits)
  pub some_direct : a.direct ≡ true → HasNoDirectPath g (has q.x.bits) (has q.through.bits) (has q.y.bits) → ⊥
  pub no_direct : a.direct ≡ false → HasNoDirectPath g (has q.x.bits) (has q.through.bits) (has q.y.bits)
  pub indirect_nil : a.indirect ≡ false → IsIndirectNil g q.x.bits q.through.bits q.y.bits q.given.bits
  pub direct_nil : a.direct ≡ false → IsDirectNil g q.x.bits q.through.bits q.y.bits q.given.bits

-- the joint effect has no hedge
abbrev pub HasNoHedge : MixedGraph → Question → Type 0
HasNoHedge g q = (h : Hedge) → IsHedge g q.x.bits (union q.y.bits q.given.bits) h → ⊥

-- nothing reads both values of a treatment, the joint effect has no hedge, and the formula is that which the procedure finds: it equals P(y[x, m[x']] | z) in
-- each positive model of g, at each assignment
pub record IsFormulaFor (g : MixedGraph) (q : Question) (f : NaturalFormula) : Type 0 where
  pub equals : EqualsNatural g q.x.bits q.through.bits q.y.bits q.given.bits f.summed.bits (parts_view f.parts.items)
  pub found : IsFormulaByParts g q.x.bits q.through.bits q.y.bits q.given.bits f.summed.bits (parts_view f.parts.items)
  pub clear : ReadsBoth g q.x.bits q.through.bits q.y.bits q.given.bits → ⊥
  pub no_hedge : HasNoHedge g q

-- nothing reads both values of a treatment, the joint effect has no hedge, and the certificate is that of P(y[x, m[x']] | z): its parts are accepted, and it
-- is read back
pub record IsCertifiedFor (g : MixedGraph) (q : Question) (c : PartCertificate) : Type 0 where
  pub clear : ReadsBoth g q.x.bits q.through.bits q.y.bits q.given.bits → ⊥
  pub no_hedge : HasNoHedge g q
  pub certificate : IsNaturalCertificate g q.x.bits q.through.bits q.y.bits q.given.bits (part_certificate_view c)

-- this is a hedge for the joint effect of x on y and what is given, whose two models show that no formula equals the nested effect
pub record IsExcluded (g : MixedGraph) (q : Question) (h : Hedge) (pair : CounterPair) : Type 0 where
  pub right : IsRightHedge g q.x.bits (union q.y.bits q.given.bits) h pair
  pub evidence : (k : Hedge) × IsHedge g q.x.bits (union q.y.bits q.given.bits) k
  pub no_formula : HasNoFormulaNested g q.x.bits q.through.bits q.y.bits q.given.bits

-- the formulas of the interventional effect; none where one of its two effects has none
abbrev pub IsAnother : MixedGraph → Question → Option Interventional → Type 0
IsAnother g q other = IsInterventional g q.x.bits q.through.bits q.y.bits q.given.bits other

-- a child of x leads to y both through the mediators and past them: two models show that no formula equals the nested effect; and there is no hedge
pub record IsWitnessed (g : MixedGraph) (q : Question) (w : Recanting) (other : Option Interventional) : Type 0 where
  pub witness : IsWitness g q.x.bits q.through.bits q.y.bits w
  pub lost : IsLostNested g q.x.bits q.through.bits q.y.bits q.given.bits
  pub no_hedge : HasNoHedge g q
  pub another : IsAnother g q other

-- a district has children of one treatment of both kinds: two models show that no formula equals the nested effect; and there is no hedge
pub record IsParted (g : MixedGraph) (q : Question) (s : Parted) (other : Option Interventional) : Type 0 where
  pub split : IsSplit g q.x.bits q.through.bits q.y.bits q.given.bits s
  pub lost : IsLostNested g q.x.bits q.through.bits q.y.bits q.given.bits
  pub no_hedge : HasNoHedge g q
  pub another : IsAnother g q other

-- the formula, where no certificate is asked for
abbrev pub DecidesPlain : (certified : Bool) → MixedGraph → Question → Asked → NaturalFormula → Type 0
DecidesPlain true g q a f = ⊥
DecidesPlain false g q a f = IsAskedFor g q a × IsFormulaFor g q f

-- the certificate in its place, where that is asked for
abbrev pub DecidesCertified : (certified : Bool) → MixedGraph → Question → Asked → PartCertificate → Type 0
DecidesCertified true g q a c = IsAskedFor g q a × IsCertifiedFor g q c
DecidesCertified false g q a c = ⊥

-- the answer to this question in the observed graph g
abbrev pub Decides : (certified : Bool) → MixedGraph → Question → Answer → Type 0
Decides certified g q (Formula a f) = DecidesPlain certified g q a f
Decides certified g q (Certified a c) = DecidesCertified certified g q a c
Decides certified g q (Excluded a h pair) = IsAskedFor g q a × IsExcluded g q h pair
Decides certified g q (Witness a w other) = IsAskedFor g q a × IsWitnessed g q w other
Decides certified g q (Split a s other) = IsAskedFor g q a × IsParted g q s other

-- x acts on none of what is given
abbrev pub AreBefore : MixedGraph → Question → Type 0
AreBefore g q = (v : ℕ) → IsTrue (has q.given.bits v) → IsDescendant g (has q.x.bits) v → ⊥

-- the question may be asked, and this is what is asked: x acts on none of what is given, and there are at most 64 names with the second names of x
pub record MayBeAsked (g : MixedGraph) (q : Question) (a : Asked) : Type 0 where
  pub before : AreBefore g q
  pub few : name_count g.vertices q.x.bits ≤ 64
  pub asked : IsAskedFor g q a

-- the answer where x acts on none of what is given, and there are at most 64 names with the second names of x
pub record IsForQuestion (certified : Bool) (g : MixedGraph) (q : Question) (a : Answer) : Type 0 where
  pub before : AreBefore g q
  pub few : name_count g.vertices q.x.bits ≤ 64
  pub decided : Decides certified g q a

-- v is the lowest member of what is given that comes after a member of x
pub record IsLowestAfter (g : MixedGraph) (q : Question) (v : ℕ) : Type 0 where
  pub member : IsTrue (has q.given.bits v)
  pub after : IsDescendant g (has q.x.bits) v
  pub least : (u : ℕ) → IsTrue (has q.given.bits u) → IsDescendant g (has q.x.bits) u → v ≤ u

-- such a member has this name
pub record IsAfterNamed (g : MixedGraph) (names : List (List ℕ)) (q : Question) (name : List ℕ) : Type 0 where
  pub vertex : ℕ
  pub lowest : IsLowestAfter g q vertex
  pub is : name ≡ name_of names vertex

-- there is none, and with the second names of x there are more than 64
pub record AreMany (g : MixedGraph) (q : Question) : Type 0 where
  pub before : AreBefore g q
  pub many : 64 < name_count g.vertices q.x.bits

-- the fault of this question, whose vertices have these names
abbrev pub IsFaultOfQuestion : MixedGraph → List (List ℕ) → Question → NaturalFault → Type 0
IsFaultOfQuestion g names q (Listed fault) = ⊥
IsFaultOfQuestion g names q NoMediator = ⊥
IsFaultOfQuestion g names q (After name) = IsAfterNamed g names q name
IsFaultOfQuestion g names q TooMany = AreMany g q
IsFaultOfQuestion g names q NoMemory = ⊥

-- this is so of the question that lists ask
pub record IsOfQuestion (l : NaturalLists) (is_so : Question → Type 0) : Type 0 where
  pub question : Question
  pub named : AreNamed l question
  pub is : is_so question

-- the fault of lists of names
abbrev pub IsFault : MixedGraph → NaturalLists → NaturalFault → Type 0
IsFault g l (Listed fault) = IsListsFault l (Listed fault)
IsFault g l NoMediator = IsListsFault l NoMediator
IsFault g l fault = IsOfQuestion l (λ q. IsFaultOfQuestion g l.query.observed q fault)

-- the answer for lists of names, or the fault of these
abbrev pub IsForNames : (certified : Bool) → MixedGraph → NaturalLists → Result Answer NaturalFault → Type 0
IsForNames certified g l (Ok a) = IsOfQuestion l (λ q. IsForQuestion certified g q a)
IsForNames certified g l (Err fault) = IsFault g l fault

-- the answer on a diagram, in its observed graph: x and y are those that are listed, or else the exposures and the outcomes
abbrev pub IsNaturalAnswer : (certified : Bool) → Diagram → (x y : Names) → (through given : List (List ℕ)) → Result Answer NaturalFault → Type 0
IsNaturalAnswer certified d x y through given = IsForNames certified (graph_of d.observed.graph) (natural_lists d x y through given)

-- ---- with want of memory

-- a fault of a question, or want of memory
abbrev pub IsQuestionFaultOrMemory : MixedGraph → List (List ℕ) → Question → NaturalFault → Type 0
IsQuestionFaultOrMemory g names q NoMemory = Unit {0}
IsQuestionFaultOrMemory g names q fault = IsFaultOfQuestion g names q fault

-- a fault of lists, or want of memory
abbrev pub IsFaultOrMemory : MixedGraph → NaturalLists → NaturalFault → Type 0
IsFaultOrMemory g l (Listed fault) = OrMemory (IsNamesFault l) fault
IsFaultOrMemory g l NoMediator = IsListsFault l NoMediator
IsFaultOrMemory g l NoMemory = Unit {0}
IsFaultOrMemory g l fault = IsOfQuestion l (λ q. IsFaultOfQuestion g l.query.observed q fault)
