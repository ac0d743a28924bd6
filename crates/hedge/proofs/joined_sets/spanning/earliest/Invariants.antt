use Rattle.std.proofs.Common.{◌≡◌, ℕ, ◌<◌, false, get_or}
use Rattle.mixed_graph.specs.Vocabulary.{graph_of}
use Rattle.hedge.proofs.joined_sets.spanning.earliest.Given as goal

abbrev pub invariant-loop-i : goal.invariant-loop-i
invariant-loop-i l = (j : ℕ) → j < l.i → (graph_of l.g).both l.v (get_or l.found j 0) ≡ false
