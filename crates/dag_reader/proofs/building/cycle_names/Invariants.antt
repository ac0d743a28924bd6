use Rattle.std.proofs.Common.{◌≡◌, map, take}
use Rattle.mixed_graph.specs.Vocabulary.{name_of}
use Rattle.dag_reader.proofs.building.cycle_names.Given as goal

abbrev pub invariant-loop-i : goal.invariant-loop-i
invariant-loop-i l = l.texts.items ≡ map (name_of l.names) (take l.i l.cycle.list)
