-- The graph that bytes hold, and refused names.
use Rattle.std.specs.Prelude.{ℕ, ◌≤◌, List, length, Ok}
use Rattle.dag_reader.specs.declared.graph.ReadGraph.{ReadGraph}
use Rattle.dag_reader.specs.Reads.{Reads}
use Rattle.diagram.specs.declared.diagram.Diagram.{Diagram}

-- the bytes are the text of this graph, and at most 1,048,576
pub record HoldsGraph (bytes : List ℕ) (g : ReadGraph) : Type 0 where
  pub small : length bytes ≤ 1048576
  pub reads : Reads bytes (Ok g)

-- the bytes are the text of this diagram's graph
abbrev pub HoldsDiagram : List ℕ → Diagram → Type 0
HoldsDiagram bytes d = HoldsGraph bytes d.read
