use Rattle.std.proofs.Common.{ℕ, ◌<◌, get_or, IsTrue}
use Rattle.mixed_graph.specs.Vocabulary.{has}
use Rattle.hedge.proofs.entries.has_stranger.Given as goal

abbrev pub invariant-loop-i : goal.invariant-loop-i
invariant-loop-i l = (k : ℕ) → k < l.i → IsTrue (has l.h.big.bits (get_or l.h.links.found k 0))
