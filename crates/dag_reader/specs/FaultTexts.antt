-- What is wrong with a graph's text, in words.
use Rattle.std.specs.Prelude.{ℕ, List, [], ◌∷◌, ◌++◌, codes}
use Rattle.std.specs.List.{flat_map}
use Rattle.std.specs.Fmt.{decimal}
use Rattle.answer_text.specs.Vocabulary.{printed}
use Rattle.dag_reader.specs.declared.faults.GraphFault.{GraphFault}
use Rattle.dag_reader.specs.declared.faults.GraphFault.TheVariants.{NotUtf8, Token, Expected, NotADag, EdgeKind, Flag, Selected, SelfLoop, TooMany}
use Rattle.dag_reader.specs.declared.faults.GraphFault.TheVariants.{RoleClash, Cycle, NoMemory}

-- names as they are printed, each behind a space
abbrev pub spaced : List (List ℕ) → List ℕ
spaced names = flat_map (λ name. 32 ∷ printed name) names

-- the text of a fault; want of memory has none
abbrev pub graph_fault_text : GraphFault → List ℕ
graph_fault_text (NotUtf8 at) = codes "graph fault 1: byte " ++ decimal at
graph_fault_text (Token at) = codes "graph fault 2: byte " ++ decimal at
graph_fault_text (Expected at) = codes "graph fault 3: byte " ++ decimal at
graph_fault_text NotADag = codes "graph fault 4"
graph_fault_text (EdgeKind at) = codes "graph fault 5: byte " ++ decimal at
graph_fault_text (Flag at) = codes "graph fault 6: byte " ++ decimal at
graph_fault_text (Selected name) = codes "graph fault 7: " ++ printed name
graph_fault_text (SelfLoop name) = codes "graph fault 8: " ++ printed name
graph_fault_text TooMany = codes "graph fault 9"
graph_fault_text (RoleClash name) = codes "graph fault 10: " ++ printed name
graph_fault_text (Cycle names) = codes "graph fault 11: cycle" ++ spaced names.items
graph_fault_text NoMemory = []

-- the text of what is wrong with more than 1,048,576 bytes
abbrev pub size_text : List ℕ
size_text = codes "graph fault 12: over 1048576 bytes"
