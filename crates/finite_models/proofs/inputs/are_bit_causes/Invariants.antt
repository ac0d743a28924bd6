use Rattle.std.proofs.Common.{ℕ, ◌<◌, get_or}
use Rattle.finite_models.specs.Inputs.{IsBitCause}
use Rattle.finite_models.proofs.inputs.are_bit_causes.Given as goal

abbrev pub invariant-loop-j : goal.invariant-loop-j
invariant-loop-j l = (i : ℕ) → i < l.j-index → IsBitCause l.m l.v (get_or l.causes i 0)
