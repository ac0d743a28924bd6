use Rattle.std.proofs.Common.{ℕ, ◌<◌}
use Rattle.finite_models.specs.Inputs.{HasValuesAt}
use Rattle.finite_models.proofs.mechanisms.wrong_value.Given as goal

abbrev pub invariant-loop-v : goal.invariant-loop-v
invariant-loop-v l = (u : ℕ) → u < l.v → HasValuesAt l.m u
