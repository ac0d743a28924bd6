use Rattle.std.proofs.Common.{◌≡◌, drop, map}
use Rattle.prob_expr.specs.View.{view}
use Rattle.prob_expr.specs.Uses.{defs_use_only}
use Rattle.prob_expr.proofs.using.defs_use_only.Given as goal

abbrev pub invariant-loop-def : goal.invariant-loop-def
invariant-loop-def l = defs_use_only l.set.bits (map view (drop l.def-index l.def-items)) ≡ defs_use_only l.set.bits (map view l.def-items)
