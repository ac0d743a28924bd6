-- An effect among the treated whose values are had over counts.
use Rattle.std.specs.Prelude.{ℕ, ◌≡◌, ◌≤◌, ◌<◌, true, false, List, [], All, None, Ok, length}
use Rattle.mixed_graph.specs.Vocabulary.{has, MixedGraph, IsMixedGraph, Within, graph_of, union}
use Rattle.dag_reader.specs.declared.graph.ReadGraph.{ReadGraph}
use Rattle.do_rules.specs.Vocabulary.{AreThreeSets}
use Rattle.prob_expr.specs.Tree.{prob}
use Rattle.prob_expr.specs.Vocabulary.{is_term, fault_in, PlainFormula, formula_view}
use Rattle.prob_expr.specs.declared.expr.Formula.{Formula}
use Rattle.identification_theory.specs.Vocabulary as identification
use Rattle.targets.specs.declared.query.Sets.{Sets}
use Rattle.diagram.specs.declared.diagram.Diagram.{Diagram}
use Rattle.treated_models.specs.Vocabulary.{name_count}
use Rattle.treated_id.specs.declared.answers.Confounding.{Confounding}
use Rattle.treated_command.specs.Requests.{Request}
use Rattle.treated_command.specs.Right.{IsUnfixed}
use Rattle.treated_command.specs.Sentences.{is_single}
use Rattle.treated_command.specs.declared.answer.Asked.{Asked}
use Rattle.treated_command.specs.declared.answer.Answer.{Answer}
use Rattle.treated_command.specs.declared.answer.Answer.TheVariants as treated
use Rattle.treated_command.specs.Vocabulary.{IsTreatedAnswer}
use Rattle.factor_values.specs.Vocabulary.{PlainFactor, PlainFactors, factors_view}
use Rattle.named_factors.specs.Vocabulary.{AreFactorsAmong, AreNamedFactors}
use Rattle.split_values.specs.Vocabulary.{IsSplitTarget}
use Rattle.paired_values.specs.Vocabulary.{PlainPaired, PlainReading, by_factors, by_split, read_in}
use Rattle.evaluate_treated.specs.declared.identified.Identified.{Identified}
use Rattle.evaluate_treated.specs.declared.identified.Way.{Way}
use Rattle.evaluate_treated.specs.declared.identified.Way.TheVariants.{Factors, Split}

-- the effect of x on y among those for whom x, and what is given, were observed, in a graph whose vertices have these names; and how its values are had
pub record PlainAmong : Type 0 where
  pub names : List (List ℕ)
  pub graph : MixedGraph
  pub asked : Asked
  pub reading : PlainReading

-- the plain reading
abbrev pub reading_of : Way → PlainReading
reading_of (Factors f) = by_factors (factors_view f)
reading_of (Split joint path) = by_split (formula_view joint)

-- an effect in an observed graph
abbrev pub among_in : ReadGraph → Identified → PlainAmong
among_in g i = record { names = g.names; graph = graph_of g.graph; asked = i.asked; reading = reading_of i.way }

-- the effect of x on y, by its numbers
abbrev pub paired_in : PlainAmong → PlainPaired
paired_in e = record {
  vertices = e.graph.vertices;
  x = e.asked.sets.x.bits;
  y = e.asked.sets.y.bits;
  given = e.asked.sets.given.bits;
  reading = e.reading;
}

-- the factor is a term P(of | given) of n vertices
pub record IsTermOf (n : ℕ) (f : PlainFactor) : Type 0 where
  pub of : ℕ
  pub given : ℕ
  pub formula : f.formula ≡ record { defs = []; main = prob of 0 given }
  pub is : is_term n of 0 given ≡ true

-- the factors are terms of vertices of the graph, and those of a formula that equals the effect among those whose x was observed, in each positive model
-- that fits the graph
pub record AreRightFactors (g : MixedGraph) (s : Sets) (f : PlainFactors) : Type 0 where
  pub factors : AreFactorsAmong g s.x.bits s.y.bits s.given.bits f
  pub terms : All (IsTermOf g.vertices) f.factors

-- x is one vertex, and the formula is accepted by the check of formulas, and equals the joint effect of x on y and what is given, in each positive model that
-- fits the graph
pub record IsRightJoint (g : MixedGraph) (s : Sets) (joint : PlainFormula) : Type 0 where
  pub target : IsSplitTarget g s.x.bits s.y.bits s.given.bits joint
  pub formed : fault_in g.vertices joint ≡ None

-- either way
abbrev pub IsRightReading : MixedGraph → Sets → PlainReading → Type 0
IsRightReading g s (by_factors f) = AreRightFactors g s f
IsRightReading g s (by_split joint) = IsRightJoint g s joint

-- x, y and what is given are three sets of vertices of the graph, and y has a member; values are had in a way that is right, which names vertices of the
-- graph alone
pub record IsIdentified (e : PlainAmong) : Type 0 where
  pub named : length e.names ≡ e.graph.vertices
  pub few : name_count e.graph.vertices e.asked.sets.x.bits ≤ 64
  pub graph : IsMixedGraph e.graph
  pub sets : AreThreeSets e.graph.vertices (has e.asked.sets.x.bits) (has e.asked.sets.y.bits) (has e.asked.sets.given.bits)
  pub some : 0 < e.asked.sets.y.bits
  pub right : IsRightReading e.graph e.asked.sets e.reading
  pub read : Within e.graph.vertices (has (read_in (paired_in e)))

-- the answer of `treated` that there is no formula, by a path, though the joint effect has one
abbrev pub IsByPath : MixedGraph → Asked → Answer → Type 0
IsByPath g asked (treated.Unfixed a c) = (a ≡ asked) × IsUnfixed g asked.sets c
IsByPath g asked a = ⊥

-- by two levels alone that answer is at hand
abbrev pub HasPath : MixedGraph → Asked → Way → Type 0
HasPath g asked (Factors f) = Unit {0}
HasPath g asked (Split joint path) = IsByPath g asked path

-- this answer is at hand
abbrev pub IsPathOf : Answer → Way → Type 0
IsPathOf a (Factors f) = ⊥
IsPathOf a (Split joint path) = path ≡ a

-- an effect that is identified, in this way
pub record IsHeld (e : PlainAmong) (way : Way) : Type 0 where
  pub identified : IsIdentified e
  pub path : HasPath e.graph e.asked way

-- `treated` answers with this formula, and these are its factors
pub record IsByFormula (d : Diagram) (q : Request) (e : PlainAmong) (f : PlainFactors) : Type 0 where
  pub formula : Formula
  pub answered : IsTreatedAnswer false d q.x q.y q.given (Ok (treated.Formula e.asked formula))
  pub factors : AreNamedFactors e.graph.vertices e.asked.sets.x.bits (formula_view formula).main f

-- `treated` answers that there is none by a path, x is one vertex, and this is the formula of the joint effect by the procedure of identification
pub record IsByJoint (d : Diagram) (q : Request) (e : PlainAmong) (joint : PlainFormula) : Type 0 where
  pub path : Confounding
  pub answered : IsTreatedAnswer false d q.x q.y q.given (Ok (treated.Unfixed e.asked path))
  pub single : is_single e.asked ≡ true
  pub formula : identification.IsIdentified e.graph e.asked.sets.x.bits (union e.asked.sets.y.bits e.asked.sets.given.bits) joint

-- either way
abbrev pub IsFoundBy : Diagram → Request → PlainAmong → PlainReading → Type 0
IsFoundBy d q e (by_factors f) = IsByFormula d q e f
IsFoundBy d q e (by_split joint) = IsByJoint d q e joint

-- it is the effect that is asked for in the observed graph of the diagram, and it is identified
pub record Identifies (d : Diagram) (q : Request) (e : PlainAmong) : Type 0 where
  pub names : e.names ≡ d.observed.names
  pub graph : e.graph ≡ graph_of d.observed.graph
  pub identified : IsIdentified e
  pub found : IsFoundBy d q e e.reading
