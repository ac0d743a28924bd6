use Rattle.std.proofs.Common.{◌≡◌, ℕ, ◌<◌, get_or, length}
use Rattle.finite_models.specs.declared.model.Mechanism.{Mechanism}
use Rattle.counter_models.specs.Pairs.{IsMechanismOf, in_first}
use Rattle.counter_models.proofs.mechanisms.first_mechanisms.Given as goal

abbrev pub invariant-loop-v : goal.invariant-loop-v
invariant-loop-v l = record {
  count : length l.mechanisms.items ≡ l.v;
  each : (u : ℕ) → u < l.v → (past : Mechanism) → IsMechanismOf l.h l.carried.kept.bits l.carried.carry.next (in_first l.h u) u
      (get_or l.mechanisms.items u past);
}
