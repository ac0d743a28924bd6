-- What is answered before counts are read.
use Rattle.std.specs.Prelude.{◌≡◌, false, Some, Result, Ok, Err}
use Rattle.mixed_graph.specs.Vocabulary.{graph_of}
use Rattle.diagram.specs.declared.diagram.Diagram.{Diagram}
use Rattle.diagram.specs.Vocabulary.{query_lists}
use Rattle.treated_command.specs.Requests.{Request}
use Rattle.treated_command.specs.Right.{IsFaultOrMemory}
use Rattle.treated_command.specs.Sentences.{is_single}
use Rattle.treated_command.specs.Vocabulary.{IsTreatedAnswer}
use Rattle.treated_command.specs.declared.answer.Answer.{Answer}
use Rattle.treated_command.specs.declared.answer.Answer.TheVariants.{Formula, Certified, Excluded, Unfixed}
use Rattle.treated_command.specs.declared.fault.TreatedFault.{TreatedFault}
use Rattle.evaluate_treated.specs.Effects.{HasPath, among_in, Identifies}
use Rattle.evaluate_treated.specs.declared.first.First.{First}
use Rattle.evaluate_treated.specs.declared.first.First.TheVariants.{Found, Answered}

-- the answer has no formula, and none for the joint effect of one treatment
abbrev pub HasNoFormula : Result Answer TreatedFault → Type 0
HasNoFormula (Ok (Formula a f)) = ⊥
HasNoFormula (Ok (Certified a c)) = ⊥
HasNoFormula (Ok (Excluded a c h pair)) = Unit {0}
HasNoFormula (Ok (Unfixed a c)) = is_single a ≡ false
HasNoFormula (Err fault) = Unit {0}

-- the answer of `treated`, which has no formula
abbrev pub IsForDiagram : Diagram → Request → Result Answer TreatedFault → Type 0
IsForDiagram d q r = IsTreatedAnswer false d q.x q.y q.given r × HasNoFormula r

-- the same; want of memory may stand in its place
abbrev pub IsAnswered : Diagram → Request → Result Answer TreatedFault → Type 0
IsAnswered d q (Ok a) = IsForDiagram d q (Ok a)
IsAnswered d q (Err fault) = IsFaultOrMemory (graph_of d.observed.graph) (query_lists d.read d.observed.names q.x q.y (Some q.given)) fault

-- the effect has a formula, or the answer is given
abbrev pub IsFirst : Diagram → Request → First → Type 0
IsFirst d q (Found i) = Identifies d q (among_in d.observed i) × HasPath (graph_of d.observed.graph) i.asked i.way
IsFirst d q (Answered r) = IsAnswered d q r
