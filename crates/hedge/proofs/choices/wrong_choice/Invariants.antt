use Rattle.std.proofs.Common.{ℕ, ◌<◌}
use Rattle.mixed_graph.specs.Vocabulary.{graph_of}
use Rattle.hedge.specs.Hedges.{IsRightChoice}
use Rattle.hedge.proofs.choices.wrong_choice.Given as goal

abbrev pub invariant-loop-v : goal.invariant-loop-v
invariant-loop-v l = (u : ℕ) → u < l.v → IsRightChoice (graph_of l.g) l.h u
