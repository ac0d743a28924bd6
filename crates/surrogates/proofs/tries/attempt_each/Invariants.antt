use Rattle.std.proofs.Common.{take}
use Rattle.mixed_graph.specs.Vocabulary.{graph_of}
use Rattle.prob_expr.specs.Vocabulary.{masks_of}
use Rattle.surrogates.specs.Tries.{AllTriedInVain}
use Rattle.surrogates.proofs.tries.attempt_each.Given as goal

abbrev pub invariant-loop-z : goal.invariant-loop-z
invariant-loop-z l = AllTriedInVain (graph_of l.g) l.c.bits (masks_of (take l.z-index l.experiments))
