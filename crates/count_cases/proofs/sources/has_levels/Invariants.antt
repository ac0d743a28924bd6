use Rattle.std.proofs.Common.{ℕ, ◌≡◌, ◌<◌, length, true, slice_index}
use Rattle.mixed_graph.specs.Vocabulary.{has}
use Rattle.count_table.specs.Vocabulary.{levels_in}
use Rattle.count_cases.proofs.sources.has_levels.Given as goal

abbrev pub invariant-loop-v : goal.invariant-loop-v
invariant-loop-v l = (u : ℕ) → u < l.v → has l.of.bits u ≡ true → (u < length l.at)
    × (slice_index l.at u < length (levels_in l.counts.vertices l.counts.levels u))
