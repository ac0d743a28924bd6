use Rattle.count_eval.specs.Vocabulary.{cell_of}
use Rattle.treated_models.specs.Vocabulary.{prime_of}
use Rattle.factor_values.proofs.Walking.{IsReadTo}
use Rattle.paired_values.proofs.observed.as_observed.Given as goal

abbrev pub invariant-loop-v : goal.invariant-loop-v
invariant-loop-v l = IsReadTo l.x.bits l.cell (λ v. cell_of l.cell (prime_of l.n l.x.bits v)) l.observed l.v
