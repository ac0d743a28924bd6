use Rattle.std.proofs.Common.{◌≡◌}
use Rattle.mixed_graph.specs.Vocabulary.{has}
use Rattle.latent_projection.specs.Renumbering.{observed_below, names_at}
use Rattle.latent_projection.proofs.dropping.observed_names.Given as goal

abbrev pub invariant-loop-v : goal.invariant-loop-v
invariant-loop-v l = l.kept ≡ names_at (observed_below (has l.latent.bits) l.v) l.names
