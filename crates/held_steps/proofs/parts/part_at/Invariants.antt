use Rattle.std.proofs.Common.{◌≡◌, drop}
use Rattle.prob_expr.specs.View.{view}
use Rattle.held_steps.specs.Holding.{part_of}
use Rattle.held_steps.proofs.parts.part_at.Given as goal

abbrev pub invariant-loop-i : goal.invariant-loop-i
invariant-loop-i l = part_of (view l.part) (drop l.i-index l.place) ≡ part_of (view l.fn.e) l.place
