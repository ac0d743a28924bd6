use Rattle.std.proofs.Common.{◌≡◌, drop}
use Rattle.prob_expr.specs.Listed.{masks_of}
use Rattle.prob_expr.specs.View.{views}
use Rattle.prob_expr.specs.Terms.{are_under}
use Rattle.prob_expr.proofs.allowing.+under.Given as goal

abbrev pub invariant-are_under-loop-factor : goal.invariant-are_under-loop-factor
invariant-are_under-loop-factor l = are_under (masks_of l.allowed) (views (drop l.factor-index l.factor-items))
    ≡ are_under (masks_of l.allowed) (views l.factor-items)
