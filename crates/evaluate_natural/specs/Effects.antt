-- A nested effect that has a formula.
use Rattle.std.specs.Prelude.{ℕ, ◌≡◌, ◌≤◌, ◌<◌, false, List, Ok, length}
use Rattle.mixed_graph.specs.Vocabulary.{has, MixedGraph, IsMixedGraph, Within, graph_of}
use Rattle.dag_reader.specs.declared.graph.ReadGraph.{ReadGraph}
use Rattle.do_rules.specs.Vocabulary.{AreFourSets}
use Rattle.diagram.specs.declared.diagram.Diagram.{Diagram}
use Rattle.treated_models.specs.Vocabulary.{name_count}
use Rattle.natural_id.specs.declared.answers.NaturalFormula.{NaturalFormula}
use Rattle.natural_id.specs.Vocabulary.{parts_view}
use Rattle.natural_command.specs.Requests.{Request}
use Rattle.natural_command.specs.declared.answer.Asked.{Asked}
use Rattle.natural_command.specs.declared.answer.Answer.TheVariants as natural
use Rattle.natural_command.specs.Vocabulary.{IsNaturalAnswer}
use Rattle.factor_values.specs.Vocabulary.{PlainFactors, factors_view}
use Rattle.natural_values.specs.Vocabulary.{AreFactorsNested, natural_factors}
use Rattle.paired_values.specs.Vocabulary.{PlainPaired, by_factors, read_in}
use Rattle.evaluate_natural.specs.declared.identified.Identified.{Identified}

-- the nested effect that is asked for, in a graph whose vertices have these names; and factors for it
pub record PlainNested : Type 0 where
  pub names : List (List ℕ)
  pub graph : MixedGraph
  pub asked : Asked
  pub factors : PlainFactors

-- an identified effect in an observed graph
abbrev pub nested_in : ReadGraph → Identified → PlainNested
nested_in g i = record { names = g.names; graph = graph_of g.graph; asked = i.asked; factors = factors_view i.factors }

-- the effect of x on y, whose values are had from its factors
abbrev pub paired_in : PlainNested → PlainPaired
paired_in e = record {
  vertices = e.graph.vertices;
  x = e.asked.question.x.bits;
  y = e.asked.question.y.bits;
  given = e.asked.question.given.bits;
  reading = by_factors e.factors;
}

-- x, y, the mediators and what is given are four sets of vertices of the graph, and y has a member. The factors are those of the formula that the procedure
-- finds, which equals the nested effect in each positive model that fits the graph, and they name vertices of the graph alone.
pub record IsIdentified (e : PlainNested) : Type 0 where
  pub named : length e.names ≡ e.graph.vertices
  pub few : name_count e.graph.vertices e.asked.question.x.bits ≤ 64
  pub graph : IsMixedGraph e.graph
  pub sets : AreFourSets e.graph.vertices (has e.asked.question.x.bits) (has e.asked.question.y.bits) (has e.asked.question.through.bits)
      (has e.asked.question.given.bits)
  pub some : 0 < e.asked.question.y.bits
  pub factors : AreFactorsNested e.graph e.asked.question.x.bits e.asked.question.through.bits e.asked.question.y.bits e.asked.question.given.bits e.factors
  pub read : Within e.graph.vertices (has (read_in (paired_in e)))

-- `natural` answers with this formula, and these are its factors
pub record IsFound (d : Diagram) (q : Request) (e : PlainNested) : Type 0 where
  pub formula : NaturalFormula
  pub answered : IsNaturalAnswer false d q.x q.y q.through q.given (Ok (natural.Formula e.asked formula))
  pub factors : e.factors ≡ natural_factors formula.summed.bits e.asked.question.given.bits (parts_view formula.parts.items)

-- it is the effect that is asked for in the observed graph of the diagram, and it is identified
pub record Identifies (d : Diagram) (q : Request) (e : PlainNested) : Type 0 where
  pub names : e.names ≡ d.observed.names
  pub graph : e.graph ≡ graph_of d.observed.graph
  pub identified : IsIdentified e
  pub found : IsFound d q e
