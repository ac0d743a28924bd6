use Rattle.std.proofs.Common.{◌<◌, ◌≡◌, ℕ, false, get_or, IsTrue}
use Rattle.mixed_graph.specs.Vocabulary.{has}
use Rattle.adjustment.proofs.parts.last_place.Given as goal

abbrev pub invariant-loop-i : goal.invariant-loop-i
invariant-loop-i l = (l.place < l.path.count) × IsTrue (has l.x.bits (get_or l.path.vertices l.place 0))
    × ((j : ℕ) → l.place < j → j < l.i → has l.x.bits (get_or l.path.vertices j 0) ≡ false)
