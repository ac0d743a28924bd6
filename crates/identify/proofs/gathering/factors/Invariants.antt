use Rattle.std.proofs.Common.{take, map}
use Rattle.mixed_graph.specs.declared.sets.VSet.{VSet}
use Rattle.mixed_graph.specs.Vocabulary.{graph_of}
use Rattle.do_derivation.specs.Vocabulary.{listed}
use Rattle.identification_theory.specs.Vocabulary.{StopsAt}
use Rattle.identify.proofs.GatheredFactors.{Derives, Gathered}
use Rattle.identify.proofs.gathering.factors.Given as goal

abbrev pub invariant-loop-c : goal.invariant-loop-c
invariant-loop-c l = Gathered (Derives l.wanted (graph_of l.g) (listed l.order)) (StopsAt (graph_of l.g) (listed l.order))
    (map (λ (s : VSet). s.bits) (take l.c-index l.c-items)) l.made
