use Rattle.std.proofs.Common.{◌-◌, ◌^◌, ◌<◌}
use Rattle.mixed_graph.specs.Vocabulary.{graph_of}
use Rattle.hedge.proofs.Trees.{Growing}
use Rattle.hedge.proofs.joined_sets.spanning.links.Given as goal

abbrev pub invariant-next : goal.invariant-next
invariant-next l = Growing (graph_of l.g) l.small.bits l.big.bits l.found l.partner l.count l.taken.bits l.near.bits
    × (l.taken.bits < 2 ^ 64)

abbrev pub decreases-next : goal.decreases-next
decreases-next l = 2 ^ 64 - l.taken.bits
