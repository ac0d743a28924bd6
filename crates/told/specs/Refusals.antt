-- What is told of listed names that are at fault.
use Rattle.std.specs.Prelude.{Bool, true, false}
use Rattle.targets.specs.declared.fault.TargetFault.{TargetFault}
use Rattle.targets.specs.declared.fault.TargetFault.TheVariants.{NoMemory}
use Rattle.replies.specs.declared.outcome.Outcome.TheVariants.{Graph}
use Rattle.replies.specs.Vocabulary.{target_told}
use Rattle.told.specs.Telling.{Refusal}

-- want of memory is one of the faults
abbrev pub is_memory : TargetFault → Bool
is_memory NoMemory = true
is_memory fault = false

-- the refusal of a fault of listed names
abbrev pub target_refusal : Refusal TargetFault
target_refusal = record { outcome = λ fault. Graph; told = target_told; is_memory = is_memory }
