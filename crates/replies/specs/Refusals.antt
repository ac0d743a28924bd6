-- What is told of refused names and graphs, and when the bytes of a graph are refused.
use Rattle.std.specs.Prelude.{ℕ, ◌≡◌, ◌<◌, ◌≤◌, List, length, Err, codes}
use Rattle.dag_reader.specs.Reads.{Reads}
use Rattle.dag_reader.specs.declared.faults.GraphFault.{GraphFault}
use Rattle.dag_reader.specs.declared.faults.GraphFault.TheVariants.{NoMemory}
use Rattle.dag_reader.specs.Vocabulary.{graph_fault_text, size_text}
use Rattle.targets.specs.declared.fault.TargetFault.{TargetFault}
use Rattle.targets.specs.Vocabulary.{target_fault_text}
use Rattle.answer_text.specs.Vocabulary.{line_of}
use Rattle.answer_json.specs.Vocabulary.{json_line}
use Rattle.fault_json.specs.Vocabulary.{graph_fault_json, graph_size_json, target_fault_json}
use Rattle.replies.specs.Told.{Told, refusal_of}

-- what is told of a fault of listed names
abbrev pub target_told : TargetFault → Told
target_told fault = refusal_of (line_of (target_fault_text fault)) (json_line (target_fault_json (codes "target") fault))

-- what is told of a text of more than 1,048,576 bytes
abbrev pub size_told : Told
size_told = refusal_of (line_of size_text) (json_line (graph_size_json (codes "graph")))

-- what is told of a fault of a graph's text, whose bytes are these
abbrev pub graph_told : (bytes : List ℕ) → GraphFault → Told
graph_told bytes fault = refusal_of (line_of (graph_fault_text fault)) (json_line (graph_fault_json (codes "graph") bytes fault))

-- the bytes are no graph text, and what is told says why: they are too many, or their text has a fault
pub data IsGraphRefusal (bytes : List ℕ) (told : Told) : Type 0 where
  too_long : 1048576 < length bytes → told ≡ size_told → IsGraphRefusal bytes told
  faulty : (fault : GraphFault) → length bytes ≤ 1048576 → (fault ≡ NoMemory → ⊥) → Reads bytes (Err fault) → told ≡ graph_told bytes fault
      → IsGraphRefusal bytes told
