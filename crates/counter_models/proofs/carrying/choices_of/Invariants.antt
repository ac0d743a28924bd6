use Rattle.std.proofs.Common.{◌≡◌, ℕ, ◌<◌, ◌≤◌, cond, slice_index, length}
use Rattle.mixed_graph.specs.Vocabulary.{has}
use Rattle.counter_models.proofs.carrying.choices_of.Given as goal

abbrev pub invariant-loop-v : goal.invariant-loop-v
invariant-loop-v l = record {
  seen : (u : ℕ) → u < l.v → slice_index l.next u ≡ cond (has l.set.bits u) (slice_index l.choice.next u) 64;
  unseen : (u : ℕ) → l.v ≤ u → u < 64 → slice_index l.next u ≡ 64;
  long : length l.next ≡ 64;
}
