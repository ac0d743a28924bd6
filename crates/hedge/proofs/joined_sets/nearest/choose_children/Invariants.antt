use Rattle.std.proofs.Common.{◌≡◌, ℕ, ◌<◌, ◌&&◌, false, IsTrue, get_or}
use Rattle.mixed_graph.specs.Vocabulary.{has, graph_of}
use Rattle.hedge.specs.Spanning.{IsLowest}
use Rattle.hedge.proofs.joined_sets.nearest.choose_children.Given as goal

abbrev pub invariant-loop-v : goal.invariant-loop-v
invariant-loop-v l = ((u : ℕ) → u < l.v → IsTrue (has l.fresh.bits u) → IsLowest (λ c. (graph_of l.g).arrow u c && has l.goal.bits c) (get_or l.next u 0))
    × ((u : ℕ) → has l.fresh.bits u ≡ false → get_or l.next u 0 ≡ get_or l.initial.next u 0)
