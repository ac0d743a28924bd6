use Rattle.std.proofs.Common.{◌<◌, ◌-◌, IsTrue, get_or}
use Rattle.mixed_graph.specs.Bits.{has}
use Rattle.mixed_graph.proofs.Lassos.{Walked}
use Rattle.mixed_graph.proofs.cycles.walk_back.Given as goal

abbrev pub invariant-walk : goal.invariant-walk
invariant-walk l = Walked (λ a b. has (get_or l.children a 0) b) l.list l.place l.count l.seen.bits l.v
    × (l.v < 64) × IsTrue (has l.set.bits l.v)

abbrev pub decreases-walk : goal.decreases-walk
decreases-walk l = 64 - l.count
