use Rattle.std.proofs.Common.{◌≡◌, ℕ, ◌<◌}
use Rattle.mixed_graph.specs.Vocabulary.{graph_of}
use Rattle.markov_equivalence.specs.Skeletons.{is_unshielded_collider}
use Rattle.markov_equivalence.proofs.firsts.first_collider.Given as goal

abbrev pub invariant-loop-a : goal.invariant-loop-a
invariant-loop-a l = (x y m : ℕ) → x < l.a → x < y → is_unshielded_collider (graph_of l.g) x m y ≡ is_unshielded_collider (graph_of l.h) x m y
