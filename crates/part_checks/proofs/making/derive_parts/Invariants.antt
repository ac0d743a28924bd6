use Rattle.std.proofs.Common.{take}
use Rattle.mixed_graph.specs.Vocabulary.{graph_of}
use Rattle.prob_expr.specs.Vocabulary.{masks_of}
use Rattle.derived_parts.specs.Vocabulary.{AreAccepted, derived_views}
use Rattle.part_checks.specs.Making.{AreWellMade}
use Rattle.part_checks.proofs.making.derive_parts.Given as goal

abbrev pub invariant-loop-c : goal.invariant-loop-c
invariant-loop-c l = AreAccepted (graph_of l.g) (masks_of (take l.c-index l.districts)) (derived_views l.parts.items)
    × AreWellMade l.g.n (derived_views l.parts.items)
