use Rattle.std.proofs.Common.{◌<◌, ◌≤◌, ◌-◌, IsTrue}
use Rattle.mixed_graph.specs.Vocabulary.{has, graph_of}
use Rattle.m_separation.specs.States.{level}
use Rattle.m_separation.proofs.Traces.{Traced}
use Rattle.m_separation.proofs.paths.trace.Given as goal

abbrev pub invariant-back : goal.invariant-back
invariant-back l = Traced (graph_of l.g) (has l.w.bits) l.fn.last.vertex l.vertices l.marks l.left (l.count - l.left) l.s.vertex l.s.head
    × IsTrue (has (level l.levels l.left l.s.head) l.s.vertex) × (l.s.vertex < 64) × (l.left ≤ l.count)

abbrev pub decreases-back : goal.decreases-back
decreases-back l = l.left
