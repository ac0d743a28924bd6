use Rattle.count_eval.proofs.Within.{IsWithin}
use Rattle.count_eval.proofs.values.cell_within.Given as goal

abbrev pub invariant-loop-v : goal.invariant-loop-v
invariant-loop-v l = IsWithin l.used.bits l.cell l.within l.v
