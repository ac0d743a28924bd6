use Rattle.std.proofs.Common.{get_or}
use Rattle.mixed_graph.specs.Vocabulary.{has, graph_of}
use Rattle.hidden_models.specs.Folded.{IsCauseOf}
use Rattle.hidden_models.specs.Lists.{AreListed}
use Rattle.hidden_models.specs.Reaching.{mask_at}
use Rattle.hidden_models.proofs.folding.kept_causes.Given as goal

abbrev pub invariant-loop-i : goal.invariant-loop-i
invariant-loop-i l = AreListed (λ i c. IsCauseOf (graph_of l.g) (has l.latent.bits) l.m.causes.items (λ j v. has (mask_at l.reached j) v)
    (get_or l.numbers i 0) c) l.causes.items l.i
