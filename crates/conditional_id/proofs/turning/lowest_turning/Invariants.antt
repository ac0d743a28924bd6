use Rattle.std.proofs.Common.{ℕ, ◌<◌, IsTrue}
use Rattle.mixed_graph.specs.Vocabulary.{has, graph_of}
use Rattle.conditional_id.specs.HedgeLaws.{HasOpenWalkTo}
use Rattle.conditional_id.proofs.turning.lowest_turning.Given as goal

abbrev pub invariant-loop-v : goal.invariant-loop-v
invariant-loop-v l = (u : ℕ) → u < l.v → IsTrue (has l.z.bits u) → HasOpenWalkTo (graph_of l.g) l.x.bits l.y.bits l.z.bits u
