use Rattle.mixed_graph.specs.Vocabulary.{has, graph_of}
use Rattle.implications.specs.Links.{IsCut}
use Rattle.implications.proofs.Thinning.{IsDownTo}
use Rattle.implications.proofs.sets.thinned.Given as goal

abbrev pub invariant-down : goal.invariant-down
invariant-down l = IsDownTo (graph_of l.g) l.pair.a l.pair.b (has l.fn.all.kept.bits) l.v (has l.cut.kept.bits) × IsCut (graph_of l.g) l.pair l.cut
