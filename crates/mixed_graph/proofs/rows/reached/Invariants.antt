use Rattle.std.proofs.Common.{◌-◌, ◌^◌, ◌<◌}
use Rattle.mixed_graph.specs.Bits.{has}
use Rattle.mixed_graph.specs.Reached.{has_in_row}
use Rattle.mixed_graph.proofs.Spreading.{Spreading}
use Rattle.mixed_graph.proofs.rows.reached.Given as goal

abbrev pub invariant-steps : goal.invariant-steps
invariant-steps l = Spreading (has_in_row l.rows) (has l.fn.from.bits) (has l.within.bits) l.found.bits l.front.bits × (l.found.bits < 2 ^ 64)
    × (l.front.bits < 2 ^ 64)

abbrev pub decreases-steps : goal.decreases-steps
decreases-steps l = 2 ^ 64 - l.found.bits
