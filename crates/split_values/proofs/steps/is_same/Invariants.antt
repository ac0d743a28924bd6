use Rattle.std.proofs.Common.{◌≡◌, true}
use Rattle.count_eval.specs.Vocabulary.{cell_of}
use Rattle.split_values.specs.Values.{is_same}
use Rattle.split_values.proofs.steps.is_same.Given as goal

abbrev pub invariant-loop-v : goal.invariant-loop-v
invariant-loop-v l = is_same l.v l.x.bits (cell_of l.first) (cell_of l.second) ≡ true
