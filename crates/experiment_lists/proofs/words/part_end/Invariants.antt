use Rattle.std.proofs.Common.{◌≡◌, Some, true, take}
use Rattle.experiment_lists.specs.Parts.{outside_after}
use Rattle.experiment_lists.proofs.words.part_end.Given as goal

abbrev pub invariant-loop-i : goal.invariant-loop-i
invariant-loop-i l = outside_after true (take l.i l.text) ≡ Some l.outside
