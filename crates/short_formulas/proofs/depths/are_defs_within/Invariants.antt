use Rattle.std.proofs.Common.{◌≡◌, drop, map}
use Rattle.prob_expr.specs.View.{view}
use Rattle.identification_theory.specs.Vocabulary.{are_defs_within}
use Rattle.short_formulas.proofs.depths.are_defs_within.Given as goal

abbrev pub invariant-loop-def : goal.invariant-loop-def
invariant-loop-def l = are_defs_within l.d (map view (drop l.def-index l.def-items)) ≡ are_defs_within l.d (map view l.def-items)
