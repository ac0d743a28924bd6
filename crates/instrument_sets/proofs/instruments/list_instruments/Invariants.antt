use Rattle.mixed_graph.specs.Vocabulary.{has, graph_of}
use Rattle.instrument_sets.proofs.Turns.{IsOnTheWay}
use Rattle.instrument_sets.proofs.instruments.list_instruments.Given as goal

abbrev pub invariant-vertices : goal.invariant-vertices
invariant-vertices g l = IsOnTheWay (graph_of l.g) (has l.x.bits) (has l.y.bits) l.most l.z-iterator l.list.items
