use Rattle.std.proofs.Common.{get_or}
use Rattle.mixed_graph.specs.Vocabulary.{has, graph_of}
use Rattle.hidden_models.specs.Lists.{AreListed}
use Rattle.hidden_models.specs.Tables.{IsTableFor}
use Rattle.hidden_models.proofs.folding.kept_tables.Given as goal

abbrev pub invariant-loop-k : goal.invariant-loop-k
invariant-loop-k l = AreListed (λ k x. IsTableFor (graph_of l.g) (graph_of l.parts.projection) (has l.latent.bits) l.m l.parts.reached.items
    (get_or l.kept k 0) x) l.mechanisms.items l.k
