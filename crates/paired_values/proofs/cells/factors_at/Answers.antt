use Rattle.std.proofs.Common.{Ok, Some, sym, ap}
use Rattle.quantity.specs.Kinds.{Pair}
use Rattle.count_eval.specs.Programs.{stop_of}
use Rattle.count_eval.specs.Vocabulary.{after}
use Rattle.count_eval.proofs.WholeValues.{fault_over}
use Rattle.paired_values.proofs.cells.factors_at.Goals as goal

pub value_of-requires-clause-none : goal.value_of-requires-clause-none
value_of-requires-clause-none g c = λ k s p h. h

pub returns-in-Ok : goal.returns-in-Ok
returns-in-Ok g c = ap (λ r. after r (λ (q : Pair). Ok (Some q))) (sym c.in-Ok.ensures)

pub returns-in-Err : goal.returns-in-Err
returns-in-Err g c = (
  stop_of c.in-Err.failure,
  ap (λ r. after r (λ (q : Pair). Ok (Some q))) (sym c.in-Err.ensures),
  fault_over c.args.counts.now c.used.result.bits c.fault_of.result (stop_of c.in-Err.failure) c.requires.counts c.used.ensures.members
      c.fault_of.ensures,
)
