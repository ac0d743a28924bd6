use Rattle.std.proofs.Common.{◌≡◌, drop, map}
use Rattle.mixed_graph.specs.Vocabulary.{union}
use Rattle.prob_expr.specs.View.{view}
use Rattle.prob_expr.specs.Mentioned.{mentioned_in_defs}
use Rattle.prob_expr.proofs.mentioning.mentioned_in_defs.Given as goal

abbrev pub invariant-loop-def : goal.invariant-loop-def
invariant-loop-def l = union l.all.bits (mentioned_in_defs (map view (drop l.def-index l.def-items))) ≡ mentioned_in_defs (map view l.def-items)
