-- Where no name of experiments is at fault, no fault is theirs.
use Rattle.std.proofs.Common.{◌≡◌, List, ℕ, None, refl, subst}
use Rattle.targets.specs.declared.fault.TargetFault.{TargetFault}
use Rattle.targets.specs.Vocabulary.{IsNameFault}
use Rattle.targets.specs.declared.fault.TargetFault.TheVariants as faults
use Rattle.experiment_lists.specs.Sets.{experiments_fault, IsExperimentsFault}
use Rattle.experiment_lists.specs.Words.{Lists}

none_named : (f : TargetFault) → IsNameFault None f → (f ≡ faults.NoMemory → ⊥) → ⊥
none_named (faults.Unknown t) h known = cc h
none_named (faults.Latent t) h known = cc h
none_named (faults.Twice t) h known = cc h
none_named faults.EmptyY h known = h
none_named faults.EmptyX h known = h
none_named faults.NotOneX h known = h
none_named (faults.Bidirected a b) h known = h
none_named (faults.OtherNames t) h known = h
none_named faults.NoMemory h known = known refl

pub no_experiments_fault : (all observed : List (List ℕ)) (experiments : Lists) (f : TargetFault) → experiments_fault all observed experiments ≡ None
    → IsExperimentsFault all observed experiments f → ⊥
no_experiments_fault all observed experiments f none is = none_named f (subst (λ o. IsNameFault o f) none is.named) is.known
