-- What the lists of experiments stand for: sets of vertices, or the first name at fault.
use Rattle.std.specs.Prelude.{ℕ, ◌≡◌, false, List, [], ◌∷◌, Option, None}
use Rattle.targets.specs.declared.fault.TargetFault.{TargetFault}
use Rattle.targets.specs.declared.fault.TargetFault.TheVariants.{NoMemory}
use Rattle.targets.specs.Vocabulary.{NameFault, first_fault, or_fault, IsListedSet, IsNameFault}

-- the first name at fault of experiments in turn, each of which may share names with the others
abbrev pub experiments_fault : (all observed : List (List ℕ)) → List (List (List ℕ)) → Option NameFault
experiments_fault all observed [] = None
experiments_fault all observed (e ∷ es) = or_fault (first_fault all observed (λ n. false) e) (experiments_fault all observed es)

-- the masks hold the observed vertices whose names the experiments list, one for each
abbrev pub AreExperimentSets : (observed : List (List ℕ)) → List (List (List ℕ)) → List ℕ → Type 0
AreExperimentSets observed [] [] = Unit {0}
AreExperimentSets observed [] (z ∷ zs) = ⊥
AreExperimentSets observed (e ∷ es) [] = ⊥
AreExperimentSets observed (e ∷ es) (z ∷ zs) = IsListedSet observed e z × AreExperimentSets observed es zs

-- the fault is that of the first name at fault
pub record IsExperimentsFault (all observed : List (List ℕ)) (experiments : List (List (List ℕ))) (f : TargetFault) : Type 0 where
  pub named : IsNameFault (experiments_fault all observed experiments) f
  pub known : f ≡ NoMemory → ⊥
