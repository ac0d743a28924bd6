use Rattle.std.proofs.Common.{◌<◌, ◌≡◌, ◌+◌, ℕ, get_or, length}
use Rattle.m_separation.specs.declared.marks.Mark.TheVariants.{Out}
use Rattle.adjustment.proofs.parts.part_from.Given as goal

abbrev pub invariant-loop-i : goal.invariant-loop-i
invariant-loop-i l = (length l.vertices ≡ 64) × (length l.marks ≡ 64)
    × ((j : ℕ) → j < l.i → get_or l.vertices j 0 ≡ get_or l.path.vertices (l.place + j) 0)
    × ((j : ℕ) → j < l.i → get_or l.marks j Out ≡ get_or l.path.marks (l.place + j) Out)
