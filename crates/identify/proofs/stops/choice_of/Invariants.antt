use Rattle.std.proofs.Common.{◌≡◌, ℕ, ◌<◌, ◌≤◌, cond, get_or, length}
use Rattle.mixed_graph.specs.Vocabulary.{has}
use Rattle.identify.proofs.stops.choice_of.Given as goal

abbrev pub invariant-loop-v : goal.invariant-loop-v
invariant-loop-v l = record {
  sized : length l.next ≡ 64;
  low : (k : ℕ) → get_or l.next k 0 ≤ 64;
  made : (k : ℕ) → k < l.v → get_or l.next k 0 ≡ cond (has l.small.bits k) (get_or l.inner.next k 0) (get_or l.outer.next k 0);
}
