use Rattle.mixed_graph.specs.Vocabulary.{graph_of}
use Rattle.implications.specs.Steps.{AreBefore}
use Rattle.implications.proofs.pairs.implications.Given as goal

abbrev pub invariant-lower : goal.invariant-lower
invariant-lower l = AreBefore (graph_of l.g) l.a 0 l.list.items
