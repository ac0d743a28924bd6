use Rattle.std.proofs.Common.{ℕ, ◌<◌, IsTrue}
use Rattle.mixed_graph.specs.Vocabulary.{has}
use Rattle.hedge.specs.Hedges.{IsPlaced}
use Rattle.hedge.proofs.entries.unplaced.Given as goal

abbrev pub invariant-loop-v : goal.invariant-loop-v
invariant-loop-v l = (u : ℕ) → u < l.v → IsTrue (has l.h.big.bits u) → IsPlaced l.h u
