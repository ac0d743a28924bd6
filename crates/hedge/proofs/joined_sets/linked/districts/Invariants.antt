use Rattle.std.proofs.Common.{◌^◌, ◌<◌, map, length, ◌≡◌}
use Rattle.mixed_graph.specs.Vocabulary.{graph_of}
use Rattle.hedge.proofs.Collecting.{Collected}
use Rattle.hedge.proofs.joined_sets.linked.districts.Given as goal

abbrev pub invariant-loop-i : goal.invariant-loop-i
invariant-loop-i l = Collected (graph_of l.g) l.within.bits l.order.list l.i (map (λ s. s.bits) l.sets) l.count l.seen.bits
    × (l.seen.bits < 2 ^ 64) × (length l.sets ≡ 64)
