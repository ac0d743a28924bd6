-- The objects of the faults of graphs, by the stage at which they lie: that of the first or of the second input.
use Rattle.std.specs.Prelude.{ℕ, List, [], codes}
use Rattle.json.specs.Json.{Json, null}
use Rattle.answer_json.specs.Vocabulary.{bare_fault_json, text_fault_json, names_fault_json, placed_fault_json}
use Rattle.dag_reader.specs.declared.faults.GraphFault.{GraphFault}
use Rattle.dag_reader.specs.declared.faults.GraphFault.TheVariants.{NotUtf8, NotADag, EdgeKind, SelfLoop, TooMany, RoleClash, Cycle, NoMemory}
use Rattle.dag_reader.specs.declared.faults.GraphFault.TheVariants.{Token, Expected, Flag, Selected}

-- a fault of a graph's text in words; want of memory has none
unfoldable pub graph_message : GraphFault → List ℕ
graph_message (NotUtf8 at) = codes "the text is not UTF-8 from here on"
graph_message (Token at) = codes "no token stands here"
graph_message (Expected at) = codes "what stands here does not fit the grammar, or the text ends too early"
graph_message NotADag = codes "the text does not begin with dag"
graph_message (EdgeKind at) = codes "this edge has no direction"
graph_message (Flag at) = codes "this attribute is none of exposure, outcome, adjusted and latent, or it stands on an edge"
graph_message (Selected name) = codes "the vertex is selected"
graph_message (SelfLoop name) = codes "an edge joins the vertex to itself"
graph_message TooMany = codes "there are more than 64 names"
graph_message (RoleClash name) = codes "the vertex has two roles"
graph_message (Cycle names) = codes "the directed edges have a cycle"
graph_message NoMemory = []

-- the object of a fault of a graph's text, whose bytes are these; want of memory has none
abbrev pub graph_fault_json : (stage bytes : List ℕ) → GraphFault → Json
graph_fault_json stage bytes (NotUtf8 at) = placed_fault_json stage 1 (graph_message (NotUtf8 at)) bytes at
graph_fault_json stage bytes (Token at) = placed_fault_json stage 2 (graph_message (Token at)) bytes at
graph_fault_json stage bytes (Expected at) = placed_fault_json stage 3 (graph_message (Expected at)) bytes at
graph_fault_json stage bytes NotADag = bare_fault_json stage 4 (graph_message NotADag)
graph_fault_json stage bytes (EdgeKind at) = placed_fault_json stage 5 (graph_message (EdgeKind at)) bytes at
graph_fault_json stage bytes (Flag at) = placed_fault_json stage 6 (graph_message (Flag at)) bytes at
graph_fault_json stage bytes (Selected name) = text_fault_json stage 7 (graph_message (Selected name)) (codes "name") name
graph_fault_json stage bytes (SelfLoop name) = text_fault_json stage 8 (graph_message (SelfLoop name)) (codes "name") name
graph_fault_json stage bytes TooMany = bare_fault_json stage 9 (graph_message TooMany)
graph_fault_json stage bytes (RoleClash name) = text_fault_json stage 10 (graph_message (RoleClash name)) (codes "name") name
graph_fault_json stage bytes (Cycle names) = names_fault_json stage 11 (graph_message (Cycle names)) names.items
graph_fault_json stage bytes NoMemory = null

-- a text of more than 1,048,576 bytes
abbrev pub graph_size_json : (stage : List ℕ) → Json
graph_size_json stage = bare_fault_json stage 12 (codes "the text has more than 1048576 bytes")
