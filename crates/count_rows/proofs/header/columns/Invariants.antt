use Rattle.std.proofs.Common.{◌≡◌, map, take, None}
use Rattle.mixed_graph.specs.Vocabulary.{index_of, name_of}
use Rattle.count_rows.specs.Faults.{header_fault}
use Rattle.count_rows.proofs.header.columns.Given as goal

abbrev pub invariant-loop-v : goal.invariant-loop-v
invariant-loop-v l = record {
  places : l.places.items ≡ map (index_of l.header) (map (name_of l.names) (take l.v-index l.vertices));
  fit : header_fault l.header (map (name_of l.names) (take l.v-index l.vertices)) ≡ None;
}
