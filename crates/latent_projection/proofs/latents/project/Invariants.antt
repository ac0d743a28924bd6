use Rattle.std.proofs.Common.{◌≤◌}
use Rattle.mixed_graph.specs.Vocabulary.{has, MixedGraph, IsMixedGraph, Agree, graph_from, graph_of}
use Rattle.mixed_graph.proofs.MemberLists.{AreMembers, is_in}
use Rattle.latent_projection.proofs.Treks.{ProjectsByTreks}
use Rattle.latent_projection.proofs.latents.project.Given as goal

-- what is left is a graph, and its projection on the latent vertices that are left is that of the whole
abbrev pub invariant-vertices : goal.invariant-vertices
invariant-vertices l = record {
  small : l.graph.0 ≤ 64;
  agree : Agree l.graph.1.0 l.graph.1.1.0;
  valid : IsMixedGraph (graph_from l.graph.0 l.graph.1.1.0 l.graph.1.1.1.0);
  are : AreMembers (has l.fn.latent.bits) 64 l.k-iterator;
  projects : (p : MixedGraph) → ProjectsByTreks (graph_from l.graph.0 l.graph.1.1.0 l.graph.1.1.1.0) (is_in l.k-iterator) p
      → ProjectsByTreks (graph_of l.g) (has l.fn.latent.bits) p;
}
