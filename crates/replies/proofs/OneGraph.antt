-- Bytes hold one graph at most, and so one diagram.
use Rattle.std.proofs.Common.{ℕ, List}
use Rattle.dag_reader.specs.declared.graph.ReadGraph.{ReadGraph}
use Rattle.dag_reader.specs.Vocabulary.{AreSame}
use Rattle.dag_reader.proofs.OneReading.{one_graph}
use Rattle.diagram.specs.declared.diagram.Diagram.{Diagram}
use Rattle.diagram.proofs.OneDiagram.{AreSameDiagrams, one_diagram}
use Rattle.replies.specs.Observed.{HoldsGraph, HoldsDiagram}

-- bytes hold one graph at most
pub one_reading : (bytes : List ℕ) (g h : ReadGraph) → HoldsGraph bytes g → HoldsGraph bytes h → AreSame g h
one_reading bytes g h a b = one_graph bytes g h a.reads b.reads

-- and one diagram
pub one_holding : (bytes : List ℕ) (d e : Diagram) → HoldsDiagram bytes d → HoldsDiagram bytes e → AreSameDiagrams d e
one_holding bytes d e a b = one_diagram d e (one_reading bytes d.read e.read a b)
