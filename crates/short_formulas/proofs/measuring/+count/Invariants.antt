use Rattle.std.proofs.Common.{◌≡◌, ◌≤◌, ◌+◌, drop}
use Rattle.prob_expr.specs.Vocabulary.{cap, views}
use Rattle.short_formulas.specs.Length.{length_of_each}
use Rattle.short_formulas.proofs.measuring.+count.Given as goal

abbrev pub invariant-count_factors-loop-factor : goal.invariant-count_factors-loop-factor
invariant-count_factors-loop-factor l = record {
  few : l.count ≤ 4294967295;
  counts : cap (l.count + length_of_each (views (drop l.factor-index l.factor-items))) ≡ cap (l.so_far + length_of_each (views l.factor-items));
}
