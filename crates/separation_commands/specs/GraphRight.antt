-- Which answers of `graph` are right: the graph that was read, or its observed graph where that is asked for.
use Rattle.std.specs.Prelude.{◌≡◌, Bool, true, false, Result, Ok, Err}
use Rattle.dag_reader.specs.declared.graph.ReadGraph.{ReadGraph}
use Rattle.targets.specs.declared.fault.TargetFault.{TargetFault}
use Rattle.diagram.specs.declared.diagram.Diagram.{Diagram}
use Rattle.separation_commands.specs.declared.graph.answer.Answer.{Answer}

-- the graph that is written: the one that was read, or its observed graph where that is asked for
abbrev pub shown_of : Bool → Diagram → ReadGraph
shown_of false d = d.read
shown_of true d = d.observed

-- it is never refused
abbrev pub IsGraphAnswer : (project : Bool) → Diagram → Result Answer TargetFault → Type 0
IsGraphAnswer project d (Ok a) = a.graph.now ≡ shown_of project d
IsGraphAnswer project d (Err fault) = ⊥
