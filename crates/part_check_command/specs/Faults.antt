-- What is told of a certificate that isn't answered.
use Rattle.std.specs.Prelude.{Bool}
use Rattle.replies.specs.Told.{Told}
use Rattle.replies.specs.declared.outcome.Outcome.{Outcome}
use Rattle.told.specs.Vocabulary.{Refusal}
use Rattle.check_command.specs.Vocabulary.{certificate_refusal}
use Rattle.treated_command.specs.Vocabulary.{treated_refusal}
use Rattle.natural_command.specs.Vocabulary.{natural_refusal}
use Rattle.part_check_command.specs.declared.fault.Fault.{Fault}
use Rattle.part_check_command.specs.declared.fault.Fault.TheVariants.{Certificate, Treated, Natural}

-- how it ends: as a fault of a certificate does, or as the command for the effect ends where that can't be asked for
abbrev pub fault_outcome : Fault → Outcome
fault_outcome (Certificate fault) = certificate_refusal.outcome fault
fault_outcome (Treated fault) = treated_refusal.outcome fault
fault_outcome (Natural fault) = natural_refusal.outcome fault

-- the same words
abbrev pub fault_told : Fault → Told
fault_told (Certificate fault) = certificate_refusal.told fault
fault_told (Treated fault) = treated_refusal.told fault
fault_told (Natural fault) = natural_refusal.told fault

-- want of memory is one of the faults
abbrev pub is_memory : Fault → Bool
is_memory (Certificate fault) = certificate_refusal.is_memory fault
is_memory (Treated fault) = treated_refusal.is_memory fault
is_memory (Natural fault) = natural_refusal.is_memory fault

-- the refusal of a fault
abbrev pub part_check_refusal : Refusal Fault
part_check_refusal = record { outcome = fault_outcome; told = fault_told; is_memory = is_memory }
