use Rattle.std.proofs.Common.{◌≡◌, ◌<◌, ℕ, false}
use Rattle.mixed_graph.specs.Vocabulary.{graph_of}
use Rattle.equivalent_command.proofs.faults.first_bidirected.Given as goal

abbrev pub invariant-loop-a : goal.invariant-loop-a
invariant-loop-a l = (x y : ℕ) → x < l.a → (graph_of l.g).both x y ≡ false
