use Rattle.mixed_graph.specs.Vocabulary.{graph_of}
use Rattle.implications.specs.Steps.{AreBefore}
use Rattle.implications.proofs.pairs.add_pairs.Given as goal

abbrev pub invariant-partners : goal.invariant-partners
invariant-partners l = AreBefore (graph_of l.g) l.a l.b l.list.items
