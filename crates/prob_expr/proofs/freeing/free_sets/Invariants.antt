use Rattle.std.proofs.Common.{◌≡◌, drop, map, []}
use Rattle.prob_expr.specs.Listed.{masks_of}
use Rattle.prob_expr.specs.View.{view}
use Rattle.prob_expr.specs.Free.{free_in_defs}
use Rattle.prob_expr.proofs.freeing.free_sets.Given as goal

abbrev pub invariant-loop-def : goal.invariant-loop-def
invariant-loop-def l = free_in_defs (masks_of l.sets.items) (map view (drop l.def-index l.defs)) ≡ free_in_defs [] (map view l.defs)
