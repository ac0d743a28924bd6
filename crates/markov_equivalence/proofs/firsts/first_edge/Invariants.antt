use Rattle.std.proofs.Common.{◌≡◌, ℕ, ◌<◌}
use Rattle.mixed_graph.specs.Vocabulary.{graph_of}
use Rattle.markov_equivalence.specs.Skeletons.{is_adjacent}
use Rattle.markov_equivalence.proofs.firsts.first_edge.Given as goal

abbrev pub invariant-loop-a : goal.invariant-loop-a
invariant-loop-a l = (x y : ℕ) → x < l.a → is_adjacent (graph_of l.g) x y ≡ is_adjacent (graph_of l.h) x y
