use Rattle.mixed_graph.specs.Vocabulary.{graph_of}
use Rattle.derived_parts.proofs.Turns.{IsChecking}
use Rattle.derived_parts.proofs.checking.check_parts.Given as goal

abbrev pub invariant-loop-k : goal.invariant-loop-k
invariant-loop-k l = IsChecking (graph_of l.g) l.fn.districts l.parts l.k
