use Rattle.mixed_graph.specs.Vocabulary.{graph_of}
use Rattle.identify.specs.Parts.{source_of}
use Rattle.identify.proofs.Placing.{Placing}
use Rattle.identify.proofs.factors.body.places_of.Given as goal

abbrev pub invariant-loop-v : goal.invariant-loop-v
invariant-loop-v l = Placing l.wanted (graph_of l.g) l.order (source_of l.from) l.a.bits l.t.bits l.before.bits l.v-index l.factors.items l.lists.items
