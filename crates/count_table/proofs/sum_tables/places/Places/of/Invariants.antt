use Rattle.mixed_graph.specs.Vocabulary.{has}
use Rattle.count_table.proofs.Choosing.{AreChosen}
use Rattle.count_table.proofs.sum_tables.places.Places.of.Given as goal

abbrev pub invariant-loop-v : goal.invariant-loop-v
invariant-loop-v l = AreChosen l.c (has l.members.bits) l.v l.vertices.items l.sizes.items l.count
