use Rattle.std.proofs.Common.{◌≡◌, ℕ, ◌<◌, slice_index, length}
use Rattle.counter_models.specs.Pairs.{size_at}
use Rattle.counter_models.proofs.mechanisms.sizes.Given as goal

abbrev pub invariant-loop-v : goal.invariant-loop-v
invariant-loop-v l = record {
  count : length l.sizes.items ≡ l.v;
  each : (u : ℕ) → u < l.v → slice_index l.sizes.items u ≡ size_at l.h l.kept.bits u;
}
