use Rattle.std.proofs.Common.{take, map}
use Rattle.mixed_graph.specs.declared.sets.VSet.{VSet}
use Rattle.mixed_graph.specs.Vocabulary.{graph_of}
use Rattle.prob_expr.specs.Vocabulary.{masks_of}
use Rattle.identify.proofs.GatheredFactors.{Gathered}
use Rattle.surrogates.specs.Surrogates.{AreDerivedWith, StopsWith}
use Rattle.surrogates.proofs.gathering.factors_with.Given as goal

abbrev pub invariant-loop-c : goal.invariant-loop-c
invariant-loop-c l = Gathered (AreDerivedWith (graph_of l.g) (masks_of l.experiments)) (StopsWith (graph_of l.g) (masks_of l.experiments))
    (map (λ (s : VSet). s.bits) (take l.c-index l.c-items)) l.made
