use Rattle.count_eval.specs.Vocabulary.{cell_of}
use Rattle.factor_values.proofs.Walking.{IsReadTo}
use Rattle.factor_values.proofs.steps.read_at.Given as goal

abbrev pub invariant-loop-v : goal.invariant-loop-v
invariant-loop-v l = IsReadTo l.second.bits l.first (cell_of l.other) l.cell l.v
