-- The faults of the lists of an effect over experiments.
use Rattle.std.proofs.Common.{◌≡◌, None, ap}
use Rattle.targets.specs.declared.fault.TargetFault.{TargetFault}
use Rattle.targets.specs.Vocabulary.{or_fault, IsNameFault, OrMemory, effect_fault}
use Rattle.targets.proofs.Faults.{named_fault}
use Rattle.experiment_lists.specs.Vocabulary.{experiments_fault}
use Rattle.surrogate_command.specs.Sets.{SurrogateLists, surrogate_fault, IsSurrogateFault}

-- a fault of a name is one of the lists
pub surrogate_fault_named : (l : SurrogateLists) (f : TargetFault) → IsNameFault (surrogate_fault l) f → OrMemory (IsSurrogateFault l) f
surrogate_fault_named l = named_fault (surrogate_fault l) (IsSurrogateFault l) (λ n e. e) (λ n e. e) (λ n e. e)

-- where x and y have no fault the first is that of the experiments
pub after_effect : (l : SurrogateLists) → effect_fault l.effect ≡ None → surrogate_fault l ≡ experiments_fault l.effect.all l.effect.observed l.experiments
after_effect l none = ap (λ o. or_fault o (experiments_fault l.effect.all l.effect.observed l.experiments)) none
