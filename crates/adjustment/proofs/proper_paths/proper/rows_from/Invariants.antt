use Rattle.std.proofs.Common.{◌≡◌, ◌<◌, ◌≤◌, ℕ, get_or, length, ◌&&◌, ◌^◌}
use Rattle.mixed_graph.specs.Vocabulary.{has}
use Rattle.adjustment.proofs.proper_paths.proper.rows_from.Given as goal

abbrev pub invariant-loop-u : goal.invariant-loop-u
invariant-loop-u l = ((a b : ℕ) → a < l.u → has (get_or l.rows a 0) b ≡ (has l.tails.bits a && has l.heads.bits b))
    × ((a : ℕ) → l.u ≤ a → get_or l.rows a 0 ≡ 0) × (length l.rows ≡ 64) × (l.tails.bits < 2 ^ 64)
