use Rattle.std.proofs.Common.{◌≡◌, ◌<◌, ◌≤◌, ℕ, get_or, length}
use Rattle.mixed_graph.specs.Vocabulary.{has}
use Rattle.do_rules.proofs.cuts.rows.transposed.Given as goal

abbrev pub invariant-loop-v : goal.invariant-loop-v
invariant-loop-v l = ((a b : ℕ) → a < l.v → has (get_or l.out a 0) b ≡ has (get_or l.rows b 0) a)
    × ((a : ℕ) → l.v ≤ a → get_or l.out a 0 ≡ 0) × (length l.out ≡ 64)
