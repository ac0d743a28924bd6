use Rattle.std.proofs.Common.{◌≡◌, ℕ, ◌<◌}
use Rattle.mixed_graph.specs.Vocabulary.{graph_of}
use Rattle.markov_equivalence.specs.Skeletons.{is_unshielded_collider}
use Rattle.markov_equivalence.proofs.firsts.first_from.Given as goal

abbrev pub invariant-loop-b : goal.invariant-loop-b
invariant-loop-b l = (y m : ℕ) → l.a < y → y < l.b → is_unshielded_collider (graph_of l.g) l.a m y ≡ is_unshielded_collider (graph_of l.h) l.a m y
