-- What `graph` writes, read again.
use Rattle.std.specs.Prelude.{◌<◌, ◌≤◌, length}
use Rattle.dag_reader.specs.declared.graph.ReadGraph.{ReadGraph}
use Rattle.dag_reader.specs.Vocabulary.{drawn_of}
use Rattle.dag_reader.specs.Written.{written}
use Rattle.replies.specs.Vocabulary.{HoldsGraph}

-- within the limit on files the text of a graph holds that graph
abbrev pub WrittenIsHeld : Type 0
WrittenIsHeld = (g : ReadGraph) → length (written (drawn_of g)) ≤ 1048576 → HoldsGraph (written (drawn_of g)) g

-- and beyond it none
abbrev pub LongIsNotHeld : Type 0
LongIsNotHeld = (g h : ReadGraph) → 1048576 < length (written (drawn_of g)) → HoldsGraph (written (drawn_of g)) h → ⊥
