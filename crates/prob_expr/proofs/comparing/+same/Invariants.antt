use Rattle.std.proofs.Common.{◌≡◌, drop, length}
use Rattle.prob_expr.specs.View.{views}
use Rattle.prob_expr.specs.Same.{same_trees}
use Rattle.prob_expr.proofs.comparing.+same.Given as goal

abbrev pub invariant-same_factors-loop-i : goal.invariant-same_factors-loop-i
invariant-same_factors-loop-i l = record {
  lengths : length l.a.items ≡ length l.b.items;
  same : same_trees (views (drop l.i l.a.items)) (views (drop l.i l.b.items)) ≡ same_trees (views l.a.items) (views l.b.items);
}
