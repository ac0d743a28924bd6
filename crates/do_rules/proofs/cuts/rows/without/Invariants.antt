use Rattle.std.proofs.Common.{◌≡◌, ◌<◌, ◌≤◌, ℕ, get_or, length, ◌&&◌, not}
use Rattle.mixed_graph.specs.Vocabulary.{has}
use Rattle.do_rules.proofs.cuts.rows.without.Given as goal

abbrev pub invariant-loop-u : goal.invariant-loop-u
invariant-loop-u l = ((a b : ℕ) → a < l.u → has (get_or l.out a 0) b ≡ (has (get_or l.rows a 0) b && not (has (get_or l.dropped a 0) b)))
    × ((a : ℕ) → l.u ≤ a → get_or l.out a 0 ≡ 0) × (length l.out ≡ 64)
