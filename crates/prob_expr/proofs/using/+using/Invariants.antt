use Rattle.std.proofs.Common.{◌≡◌, drop}
use Rattle.prob_expr.specs.View.{views}
use Rattle.prob_expr.specs.Uses.{use_only}
use Rattle.prob_expr.proofs.using.+using.Given as goal

abbrev pub invariant-use_only-loop-factor : goal.invariant-use_only-loop-factor
invariant-use_only-loop-factor l = use_only l.set.bits (views (drop l.factor-index l.factor-items)) ≡ use_only l.set.bits (views l.factor-items)
