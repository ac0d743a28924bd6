use Rattle.std.proofs.Common.{ap, ◌∙◌}
use Rattle.mixed_graph.specs.Vocabulary.{has, graph_of}
use Rattle.mixed_graph.proofs.Masks.{has-zero}
use Rattle.latent_projection.proofs.WholeGraph.{observed_whole}
use Rattle.latent_projection.proofs.dropping.observed_graph.Goals as goal

pub returns-then-is_empty : goal.returns-then-is_empty
returns-then-is_empty c =
    observed_whole (graph_of c.args.graph.now) (has c.args.latent.bits) c.args.graph.now.valid
    (λ v. ap (λ m. has m v) (c.is_empty.ensures.none.0 c.if-is_empty.true) ∙ has-zero v)
