use Rattle.mixed_graph.specs.Vocabulary.{graph_of}
use Rattle.treated_id.proofs.Listing.{Listing}
use Rattle.treated_id.proofs.terms.terms_of.Given as goal

abbrev pub invariant-loop-v : goal.invariant-loop-v
invariant-loop-v l = Listing (graph_of l.g) l.order l.x.bits l.s.bits l.c.bits l.before.bits l.v-index l.terms.items
