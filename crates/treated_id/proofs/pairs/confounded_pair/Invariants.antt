use Rattle.mixed_graph.specs.Vocabulary.{graph_of}
use Rattle.treated_id.proofs.Joined.{Searching}
use Rattle.treated_id.proofs.pairs.confounded_pair.Given as goal

abbrev pub invariant-treatments : goal.invariant-treatments
invariant-treatments l = Searching (graph_of l.g) l.fn.x.bits l.s.bits l.p-iterator
