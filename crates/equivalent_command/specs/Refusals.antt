-- What is told of a second graph that is refused.
use Rattle.std.specs.Prelude.{ℕ, List, codes}
use Rattle.answer_text.specs.Vocabulary.{line_of, second as of_second}
use Rattle.dag_reader.specs.declared.faults.GraphFault.{GraphFault}
use Rattle.dag_reader.specs.Vocabulary.{graph_fault_text, size_text}
use Rattle.targets.specs.declared.fault.TargetFault.{TargetFault}
use Rattle.targets.specs.Vocabulary.{target_fault_text}
use Rattle.answer_json.specs.Vocabulary.{json_line}
use Rattle.fault_json.specs.Vocabulary.{graph_fault_json, graph_size_json, target_fault_json}
use Rattle.replies.specs.Told.{Told}
use Rattle.replies.specs.Vocabulary.{refusal_of}

-- its text has more than 1,048,576 bytes
abbrev pub second_size_told : Told
second_size_told = refusal_of (line_of (of_second size_text)) (json_line (graph_size_json (codes "second graph")))

-- its text, whose bytes are these, has a fault
abbrev pub second_graph_told : (bytes : List ℕ) → GraphFault → Told
second_graph_told bytes fault =
    refusal_of (line_of (of_second (graph_fault_text fault))) (json_line (graph_fault_json (codes "second graph") bytes fault))

-- it can't be compared with the first
abbrev pub second_target_told : TargetFault → Told
second_target_told fault = refusal_of (line_of (of_second (target_fault_text fault))) (json_line (target_fault_json (codes "second target") fault))
