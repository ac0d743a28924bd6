use Rattle.std.proofs.Common.{◌≡◌}
use Rattle.mixed_graph.specs.Vocabulary.{has}
use Rattle.latent_projection.specs.Vocabulary.{observed_below, names_at}
use Rattle.caller_memory.proofs.kept.drawing.names_apart_from.Given as goal

abbrev pub invariant-loop-v : goal.invariant-loop-v
invariant-loop-v l = l.kept ≡ names_at (observed_below (has l.latent.bits) l.v) l.names
