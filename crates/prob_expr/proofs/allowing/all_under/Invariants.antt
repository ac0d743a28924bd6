use Rattle.std.proofs.Common.{◌≡◌, drop, map}
use Rattle.prob_expr.specs.Listed.{masks_of}
use Rattle.prob_expr.specs.View.{view}
use Rattle.prob_expr.specs.Terms.{all_under}
use Rattle.prob_expr.proofs.allowing.all_under.Given as goal

abbrev pub invariant-loop-def : goal.invariant-loop-def
invariant-loop-def l = all_under (masks_of l.allowed) (map view (drop l.def-index l.def-items)) ≡ all_under (masks_of l.allowed) (map view l.def-items)
