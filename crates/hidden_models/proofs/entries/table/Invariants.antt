use Rattle.std.proofs.Common.{◌≡◌}
use Rattle.mixed_graph.specs.Vocabulary.{has, graph_of}
use Rattle.hidden_models.specs.Lists.{AreListed}
use Rattle.hidden_models.specs.Tables.{entry_at}
use Rattle.hidden_models.proofs.entries.table.Given as goal

abbrev pub invariant-loop-place : goal.invariant-loop-place
invariant-loop-place l = AreListed (λ i x. x ≡ entry_at (graph_of l.g) (graph_of l.parts.projection) (has l.latent.bits) l.m l.parts.reached.items l.v i)
    l.outputs.items l.place
