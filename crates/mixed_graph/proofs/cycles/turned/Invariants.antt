use Rattle.std.proofs.Common.{◌≡◌, ◌<◌, ◌≤◌, ℕ, get_or, length}
use Rattle.mixed_graph.specs.Arrows.{turn}
use Rattle.mixed_graph.proofs.cycles.turned.Given as goal

abbrev pub invariant-loop-i : goal.invariant-loop-i
invariant-loop-i l = ((k : ℕ) → k < l.i → get_or l.out k 0 ≡ get_or l.list (turn l.back l.count l.p k) 0)
    × ((k : ℕ) → l.i ≤ k → get_or l.out k 0 ≡ 0) × (length l.out ≡ 64)
