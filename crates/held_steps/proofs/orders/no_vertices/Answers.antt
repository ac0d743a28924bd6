use Rattle.mixed_graph.proofs.PairMasks.{blank}
use Rattle.held_steps.proofs.orders.no_vertices.Goals as goal

pub invariant_of-result-clause-blank : goal.invariant_of-result-clause-blank
invariant_of-result-clause-blank c = λ i h. blank 64 i
