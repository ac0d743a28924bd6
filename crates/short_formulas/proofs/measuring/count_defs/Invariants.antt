use Rattle.std.proofs.Common.{◌≡◌, ◌≤◌, ◌+◌, drop, map}
use Rattle.prob_expr.specs.Vocabulary.{cap}
use Rattle.prob_expr.specs.View.{view}
use Rattle.short_formulas.specs.Length.{length_of_all}
use Rattle.short_formulas.proofs.measuring.count_defs.Given as goal

abbrev pub invariant-loop-def : goal.invariant-loop-def
invariant-loop-def l = record {
  few : l.count ≤ 4294967295;
  counts : cap (l.count + length_of_all (map view (drop l.def-index l.def-items))) ≡ cap (length_of_all (map view l.def-items));
}
