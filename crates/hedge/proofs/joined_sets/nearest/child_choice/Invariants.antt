use Rattle.std.proofs.Common.{ℕ, ◌+◌, ◌-◌, ◌*◌, ◌^◌, ◌<◌}
use Rattle.mixed_graph.specs.Vocabulary.{has, graph_of}
use Rattle.hedge.proofs.Levels.{Level}
use Rattle.hedge.proofs.joined_sets.nearest.child_choice.Given as goal

abbrev pub invariant-levels : goal.invariant-levels
invariant-levels l = ((k : ℕ) × Level (graph_of l.g) (has l.within.bits) (has l.fn.toward.bits) l.seen.bits l.front.bits l.next k)
    × (l.seen.bits < 2 ^ 64) × (l.front.bits < 2 ^ 64)

abbrev pub decreases-levels : goal.decreases-levels
decreases-levels l = (2 ^ 64 - l.seen.bits) * 2 ^ 64 + l.front.bits
