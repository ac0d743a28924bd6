use Rattle.std.proofs.Common.{◌≡◌, drop}
use Rattle.prob_expr.specs.Listed.{masks_of}
use Rattle.prob_expr.specs.Terms.{is_listed}
use Rattle.prob_expr.proofs.allowing.is_listed.Given as goal

abbrev pub invariant-loop-set : goal.invariant-loop-set
invariant-loop-set l = is_listed l.b.bits (masks_of (drop l.set-index l.allowed)) ≡ is_listed l.b.bits (masks_of l.allowed)
