use Rattle.std.proofs.Common.{◌-◌, ◌^◌, ◌<◌}
use Rattle.mixed_graph.specs.Vocabulary.{has, graph_of}
use Rattle.mixed_graph.proofs.Spreading.{Spreading}
use Rattle.implications.specs.Links.{is_link}
use Rattle.implications.proofs.links.reached_by_links.Given as goal

abbrev pub invariant-steps : goal.invariant-steps
invariant-steps l = Spreading (is_link (graph_of l.g) (has l.w.bits)) (has l.fn.from.bits) (has l.within.bits) l.found.bits l.front.bits
    × (l.found.bits < 2 ^ 64) × (l.front.bits < 2 ^ 64)

abbrev pub decreases-steps : goal.decreases-steps
decreases-steps l = 2 ^ 64 - l.found.bits
