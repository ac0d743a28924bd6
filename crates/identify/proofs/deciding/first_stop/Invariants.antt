use Rattle.std.proofs.Common.{take, map}
use Rattle.mixed_graph.specs.declared.sets.VSet.{VSet}
use Rattle.mixed_graph.specs.Vocabulary.{graph_of}
use Rattle.identify.specs.Deciding.{AreFactorable}
use Rattle.identify.proofs.deciding.first_stop.Given as goal

abbrev pub invariant-loop-c : goal.invariant-loop-c
invariant-loop-c l = AreFactorable (graph_of l.g) (map (λ (s : VSet). s.bits) (take l.c-index l.c-items))
