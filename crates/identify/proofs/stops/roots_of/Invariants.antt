use Rattle.mixed_graph.specs.Vocabulary.{graph_of}
use Rattle.identify.proofs.Roots.{AreRootsBelow}
use Rattle.identify.proofs.stops.roots_of.Given as goal

abbrev pub invariant-loop-u : goal.invariant-loop-u
invariant-loop-u l = AreRootsBelow (graph_of l.g) l.set.bits l.roots.bits l.u
