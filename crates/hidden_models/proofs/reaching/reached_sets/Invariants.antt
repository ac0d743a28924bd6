use Rattle.mixed_graph.specs.Vocabulary.{has, graph_of}
use Rattle.hidden_models.specs.Lists.{AreListed}
use Rattle.hidden_models.specs.Reaching.{IsReachOf}
use Rattle.hidden_models.proofs.reaching.reached_sets.Given as goal

abbrev pub invariant-loop-j : goal.invariant-loop-j
invariant-loop-j l = AreListed (IsReachOf (graph_of l.g) (has l.latent.bits) l.causes) l.sets.items l.j
