-- What is answered before counts are read.
use Rattle.std.specs.Prelude.{Result, Ok, Err, false}
use Rattle.mixed_graph.specs.Vocabulary.{graph_of}
use Rattle.diagram.specs.declared.diagram.Diagram.{Diagram}
use Rattle.natural_command.specs.Requests.{Request}
use Rattle.natural_command.specs.Right.{IsFaultOrMemory}
use Rattle.natural_command.specs.Vocabulary.{IsNaturalAnswer, natural_lists}
use Rattle.natural_command.specs.declared.answer.Answer.{Answer}
use Rattle.natural_command.specs.declared.answer.Answer.TheVariants.{Formula, Certified, Excluded, Witness, Split}
use Rattle.natural_command.specs.declared.fault.NaturalFault.{NaturalFault}
use Rattle.evaluate_natural.specs.Effects.{nested_in, Identifies}
use Rattle.evaluate_natural.specs.declared.first.First.{First}
use Rattle.evaluate_natural.specs.declared.first.First.TheVariants.{Found, Answered}

-- the answer has no formula
abbrev pub HasNoFormula : Result Answer NaturalFault → Type 0
HasNoFormula (Ok (Formula a f)) = ⊥
HasNoFormula (Ok (Certified a c)) = ⊥
HasNoFormula (Ok (Excluded a h pair)) = Unit {0}
HasNoFormula (Ok (Witness a w other)) = Unit {0}
HasNoFormula (Ok (Split a s other)) = Unit {0}
HasNoFormula (Err fault) = Unit {0}

-- the answer of `natural`, of which no certificate is asked, and which has no formula
abbrev pub IsForDiagram : Diagram → Request → Result Answer NaturalFault → Type 0
IsForDiagram d q r = IsNaturalAnswer false d q.x q.y q.through q.given r × HasNoFormula r

-- the same; want of memory may stand in its place
abbrev pub IsAnswered : Diagram → Request → Result Answer NaturalFault → Type 0
IsAnswered d q (Ok a) = IsForDiagram d q (Ok a)
IsAnswered d q (Err fault) = IsFaultOrMemory (graph_of d.observed.graph) (natural_lists d q.x q.y q.through q.given) fault

-- the effect has a formula, or the answer is given
abbrev pub IsFirst : Diagram → Request → First → Type 0
IsFirst d q (Found i) = Identifies d q (nested_in d.observed i)
IsFirst d q (Answered r) = IsAnswered d q r
