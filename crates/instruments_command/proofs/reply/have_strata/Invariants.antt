use Rattle.std.proofs.Common.{◌≡◌, drop}
use Rattle.instruments_command.specs.Right.{have_strata}
use Rattle.instruments_command.proofs.reply.have_strata.Given as goal

abbrev pub invariant-loop-c : goal.invariant-loop-c
invariant-loop-c l = have_strata (drop l.c-index l.list) ≡ have_strata l.list
