use Rattle.std.proofs.Common.{ℕ, ◌<◌}
use Rattle.mixed_graph.specs.Vocabulary.{graph_of}
use Rattle.finite_models.specs.Inputs.{HasInputsAt}
use Rattle.finite_models.proofs.mechanisms.wrong_input.Given as goal

abbrev pub invariant-loop-v : goal.invariant-loop-v
invariant-loop-v l = (u : ℕ) → u < l.v → HasInputsAt (graph_of l.g) l.m u
