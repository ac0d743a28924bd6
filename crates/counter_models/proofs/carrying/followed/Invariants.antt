use Rattle.std.proofs.Common.{◌<◌, ◌+◌, ◌-◌, ◌*◌, ◌^◌}
use Rattle.mixed_graph.proofs.Searches.{Searching}
use Rattle.counter_models.proofs.Following.{choosing}
use Rattle.counter_models.proofs.carrying.followed.Given as goal

abbrev pub invariant-loop-front : goal.invariant-loop-front
invariant-loop-front l = Searching (choosing l.choice.next) l.fn.roots.bits l.found.bits l.front.bits × (l.found.bits < 2 ^ 64) × (l.front.bits < 2 ^ 64)

abbrev pub decreases-loop-front : goal.decreases-loop-front
decreases-loop-front l = (2 ^ 64 - l.found.bits) * 2 ^ 64 + l.front.bits
