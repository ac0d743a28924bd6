use Rattle.mixed_graph.specs.Vocabulary.{graph_of}
use Rattle.latent_projection.specs.Removal.{without}
use Rattle.latent_projection.proofs.Rows.{AreRows}
use Rattle.latent_projection.proofs.latents.spouses_past.Given as goal

abbrev pub invariant-loop-v : goal.invariant-loop-v
invariant-loop-v l = AreRows (without (graph_of l.g) l.k).both l.v l.out
