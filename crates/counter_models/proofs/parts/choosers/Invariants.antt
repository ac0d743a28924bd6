use Rattle.std.proofs.Common.{◌≡◌, ℕ, ◌<◌, ◌≤◌, ◌&&◌, ◌==◌, false, slice_index}
use Rattle.mixed_graph.specs.Vocabulary.{has}
use Rattle.counter_models.proofs.parts.choosers.Given as goal

abbrev pub invariant-loop-u : goal.invariant-loop-u
invariant-loop-u l = record {
  seen : (w : ℕ) → w < l.u → has l.found.bits w ≡ (has l.set.bits w && (slice_index l.choice.next w == l.v));
  unseen : (w : ℕ) → l.u ≤ w → has l.found.bits w ≡ false;
}
