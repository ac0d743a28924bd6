-- A refusal has a status above 1.
use Rattle.std.proofs.Common.{ℕ, ◌<◌, arith}
use Rattle.replies.specs.Vocabulary.{code_of}
use Rattle.treated_command.specs.declared.fault.TreatedFault.{TreatedFault}
use Rattle.treated_command.specs.Vocabulary.{treated_refusal}
use Rattle.evaluate_command.specs.declared.faults.ValuesFault.{ValuesFault}
use Rattle.evaluate_command.specs.declared.faults.ValuesFault.TheVariants.{TooLong, Counts, NoValue, NoMemory}
use Rattle.evaluate_command.specs.Vocabulary.{values_refusal}

-- that of lists for an effect among the treated
pub treated_refused : (e : TreatedFault) → 1 < code_of (treated_refusal.outcome e)
treated_refused e = omega arith

-- that of counts, or of a value over them
pub values_refused : (e : ValuesFault) → 1 < code_of (values_refusal.outcome e)
values_refused TooLong = omega arith
values_refused (Counts fault) = omega arith
values_refused (NoValue names t fault) = omega arith
values_refused NoMemory = omega arith
