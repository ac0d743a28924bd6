use Rattle.std.proofs.Common.{take}
use Rattle.mixed_graph.specs.Vocabulary.{graph_of}
use Rattle.prob_expr.specs.Vocabulary.{masks_of}
use Rattle.part_checks.specs.Natural.{AreEachAlike}
use Rattle.part_checks.proofs.natural.first_split.Given as goal

abbrev pub invariant-loop-c : goal.invariant-loop-c
invariant-loop-c l = AreEachAlike (graph_of l.g) l.x.bits l.through.bits (masks_of (take l.c-index l.districts))
