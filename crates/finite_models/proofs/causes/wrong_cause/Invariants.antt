use Rattle.std.proofs.Common.{ℕ, ◌<◌}
use Rattle.mixed_graph.specs.Vocabulary.{graph_of}
use Rattle.finite_models.specs.Sound.{IsSoundAt}
use Rattle.finite_models.proofs.causes.wrong_cause.Given as goal

abbrev pub invariant-loop-j : goal.invariant-loop-j
invariant-loop-j l = (i : ℕ) → i < l.j → IsSoundAt (graph_of l.g) l.m i
