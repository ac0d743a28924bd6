use Rattle.std.proofs.Common.{◌≡◌, ℕ, ◌<◌, ◌≤◌, false}
use Rattle.mixed_graph.specs.Vocabulary.{has}
use Rattle.finite_models.specs.Data.{has_hedge}
use Rattle.finite_models.proofs.inputs.with_hedge.Given as goal

abbrev pub invariant-loop-v : goal.invariant-loop-v
invariant-loop-v l = record {
  seen : (u : ℕ) → u < l.v → has l.found.bits u ≡ has_hedge l.mechanisms u;
  unseen : (u : ℕ) → l.v ≤ u → has l.found.bits u ≡ false;
}
