use Rattle.std.proofs.Common.{subst, sym}
use Rattle.mixed_graph.specs.Vocabulary.{IsMixedGraph}
use Rattle.latent_projection.specs.Renumbering.{observed_below}
use Rattle.latent_projection.proofs.Numbering.{IsMixedGraph-renumbered}
use Rattle.latent_projection.proofs.Projected.{IsMixedGraph-projection}
use Rattle.latent_projection.proofs.theory.laws.Goals as goal

pub returns : goal.returns
returns c = record {
  mixed = λ g ok l q is. subst IsMixedGraph (sym is.renumbers)
      (IsMixedGraph-renumbered is.projection (observed_below l g.vertices) (IsMixedGraph-projection g is.projection l ok is.projects));
}
