use Rattle.std.proofs.Common.{◌≡◌, ◌%◌, sum_by, take}
use Rattle.finite_models.specs.Worlds.{value_in_world}
use Rattle.finite_models.proofs.parities.cause_parity.Given as goal

abbrev pub invariant-loop-j : goal.invariant-loop-j
invariant-loop-j l = l.parity ≡ sum_by (value_in_world l.m.causes.items l.world) (take l.j-index l.causes) % 2
